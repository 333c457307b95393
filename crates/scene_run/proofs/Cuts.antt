-- In a scene cutting refuses with 8 alone, where 0 triangles are printed: an area as built is not refused otherwise, and its triangles have room.
-- Assumes nothing.
use Prim.Native.Nat.{ℕ, zero, suc, ◌+◌, ◌-◌, ◌*◌, ◌≤◌}
use mathlib.Core.Path.{◌≡◌, refl, sym, ap, ◌∙◌}
use mathlib.Core.Bool.{Bool, true, false}
use mathlib.Core.List.{List, [], ◌++◌}
use native.Mathlib.Omega.{arith}
use lib.ListN.{length, take, drop, length-replicate}
use lib.Seq.{length-take-le, take-append_seam, drop-append_seam}
use lib.Dec.{ltb}
use lib.Ieee.{Float}
use borrow.Author.Tests.{ltb-false, le-ltb}
use Rattle.laws.specs.Loop.{first_of}
use Rattle.angle.specs.Angles.{weak}
use Rattle.ring_turns.specs.Turns.{turn_sum}
use Rattle.ring_corners.specs.Corners.{reversal, corner_at, ring_of, classes_of, all_both}
use Rattle.vec3.proofs.Arrays.{size}
use Rattle.ring_cut.specs.Cut as C
use Rattle.minor_arc.specs.declared.Mode.TheVariants.{Plain}
use Rattle.loop_header.specs.declared.Header.{Header}
use Rattle.loop_header.specs.Loops.{empty_header, full_header, threes_of, shape_fault, classes_fault, ring_fault, cut_fault}
use Rattle.loop_build.specs.Build.{Doubles, loop, opened_count, list_fault, refusal, ring_header, made_if, made, outcome_of, outcome_if, outcome_by, build_outcome}
use Rattle.loop_build.specs.Build as B
use Rattle.loop_build.proofs.Rooms.{list_fine, fine}
use Rattle.loop_build.proofs.Builts.{codes_count, built_cuttable}
use Rattle.loop_ask.specs.Answers.{Told, refused, answer}
use Rattle.loop_triangles.specs.Triangles.{cut_told, full_outcome, triangulate_outcome}
use Rattle.loop_triangles.specs.Triangles as T
use Rattle.loop_triangles.proofs.Demand.{cut_is}
use Rattle.scene_records.specs.Records.{floats_at}
use Rattle.scene_store.specs.declared.Area.{Area}
use Rattle.scene_store.specs.Store.{corners, codes, built_at, blank}
use Rattle.scene_run.proofs.Floats.{read_doubles}

blank_size : length blank ≡ 1530
unfolding blank
blank_size = rw length-replicate refl

told_eight : (b : Bool) (n k : ℕ) → cut_told b n ≡ refused k → k ≡ 8
told_eight true n k e = absurd (let z : ◌≡◌ {A = ℕ} 0 1 = cc in omega arith)
told_eight false n k e = let q : 8 ≡ k = cc in sym q

answered : {t : Told} (n k : ℕ) → t ≡ answer n → t ≡ refused k → k ≡ 8
answered n k e f = absurd (let z : ◌≡◌ {A = ℕ} 0 1 = cc in omega arith)

same : {a b : Header} → loop a ≡ loop b → a ≡ b
same e = cc

empty_is : (triangulate_outcome (empty_header Plain) [] [] blank).answer ≡ answer 0
unfolding triangulate_outcome cut_fault shape_fault threes_of ring_fault classes_fault first_of
empty_is = refl

full_is : (w : Bool) → (triangulate_outcome (full_header Plain w) [] [] blank).answer ≡ answer 20
unfolding triangulate_outcome cut_fault shape_fault threes_of ring_fault classes_fault first_of full_outcome
full_is w = rw (le-ltb (length blank) 60 (omega (arith, blank_size)))

-- a part between two others
part : {A : Type 0} (m n : ℕ) (xs ys zs : List A) → length xs ≡ m → length ys ≡ n → take n (drop m (xs ++ (ys ++ zs))) ≡ ys
part m n xs ys zs e f = rw (← e, ← f, drop-append_seam xs (ys ++ zs)) (take-append_seam ys zs)

-- an area cut where it was built
abbrev cut_as : ℕ → List Float → List ℕ → Header → B.Outcome → Told
cut_as used ps cs h o = (triangulate_outcome h (take (3 * h.count) (drop (3 * used) (take (3 * used) ps ++ o.positions))) (take h.count (drop used (take used cs ++ o.classes))) blank).answer

module _ (l : List Float) (d : Doubles l) (used : ℕ) (ps ns : List Float) (cs : List ℕ) (p : 3 * used ≤ length ps) (c : used ≤ length cs) (k : ℕ) where
  ring_eight : (r : Bool) (n : ℕ) → n ≡ opened_count l → 3 ≤ n → list_fault l ≡ 0 → (triangulate_outcome (ring_header Plain l n r) (ring_of l n r) (classes_of l n r) blank).answer ≡ refused k → k ≡ 8
  unfolding ring_header
  ring_eight r n o g f e =
      let m : 3 * (length (classes_of l n r) - 2) ≤ length blank = omega (arith, codes_count l n r, (list_fine l f).small, o, blank_size) in
      let q = cut_is (ring_header Plain l n r) (ring_of l n r) (classes_of l n r) blank (built_cuttable l d f r n o Plain g) refl m in
      told_eight (C.cut_ring_outcome (ring_of l n r) (classes_of l n r) blank).answer (length (classes_of l n r) - 2) k (sym (ap (λ (x : T.Outcome). x.answer) q) ∙ e)

  module _ {h : Header} where
    of_made : (b : Bool) (r : Bool) (n : ℕ) → n ≡ opened_count l → 3 ≤ n → list_fault l ≡ 0 → (ns' : List Float)
        → loop h ≡ loop (made_if b Plain l n r (drop (3 * used) ps) ns' (drop used cs)).header → cut_as used ps cs h (outcome_of (made_if b Plain l n r (drop (3 * used) ps) ns' (drop used cs))) ≡ refused k → k ≡ 8
    unfolding ring_header
    of_made true r n o g f ns' e z =
        let y : (triangulate_outcome (full_header Plain (weak (turn_sum l n))) [] [] blank).answer ≡ refused k = rw (same e) at z in
        answered 20 k (full_is (weak (turn_sum l n))) y
    of_made false r n o g f ns' e z =
        let y : (triangulate_outcome (ring_header Plain l n r) (take (3 * n) (drop (3 * used) (take (3 * used) ps ++ (ring_of l n r ++ drop (3 * n) (drop (3 * used) ps)))))
        (take n (drop used (take used cs ++ (classes_of l n r ++ drop n (drop used cs))))) blank).answer ≡ refused k = rw (same e) at z in
        let u = part (3 * used) (3 * n) (take (3 * used) ps) (ring_of l n r) (drop (3 * n) (drop (3 * used) ps)) (length-take-le (3 * used) ps p) (size (corner_at l n r) n) in
        let v = part used n (take used cs) (classes_of l n r) (drop n (drop used cs)) (length-take-le used cs c) (codes_count l n r) in
        ring_eight r n o g f (rw (u, v) at y)

    of_if : (b : Bool) (n : ℕ) → ltb n 3 ≡ b → n ≡ opened_count l → list_fault l ≡ 0
        → loop h ≡ (outcome_if b Plain l n (drop (3 * used) ps) (drop (3 * used) ns) (drop used cs)).answer → cut_as used ps cs h (outcome_if b Plain l n (drop (3 * used) ps) (drop (3 * used) ns) (drop used cs)) ≡ refused k → k ≡ 8
    unfolding made
    of_if true n t o f e z =
        let y : (triangulate_outcome (empty_header Plain) [] [] blank).answer ≡ refused k = rw (same e) at z in
        answered 0 k empty_is y
    of_if false n t o f e z = of_made (all_both (classes_of l n (reversal l n))) (reversal l n) n o (ltb-false _ _ t) f (drop (3 * used) ns) e z

    of_refusal : (i : ℕ) → refusal l (drop (3 * used) ps) (drop (3 * used) ns) (drop used cs) ≡ i
        → loop h ≡ (outcome_by i Plain l (drop (3 * used) ps) (drop (3 * used) ns) (drop used cs)).answer → cut_as used ps cs h (outcome_by i Plain l (drop (3 * used) ps) (drop (3 * used) ns) (drop used cs)) ≡ refused k → k ≡ 8
    of_refusal zero t e z = of_if (ltb (opened_count l) 3) (opened_count l) refl refl (fine l (drop (3 * used) ps) (drop (3 * used) ns) (drop used cs) t).0 e z
    of_refusal (suc i) t e z = absurd (let x : ◌≡◌ {A = ℕ} 0 1 = cc in omega arith)

    of_list : loop h ≡ (built_at l used ps ns cs).answer → cut_as used ps cs h (build_outcome Plain l (drop (3 * used) ps) (drop (3 * used) ns) (drop used cs)) ≡ refused k → k ≡ 8
    unfolding built_at build_outcome
    of_list e z = of_refusal (refusal l (drop (3 * used) ps) (drop (3 * used) ns) (drop used cs)) refl e z

-- the area of a header that was built from a record's bytes into the rest of the store, cut as `triangle_count` cuts it
abbrev pub area_at : ℕ → ℕ → Header → Area
area_at number used h = record { number = number; start = used; header = h }

pub eight_alone : (s : List ℕ) (at count used number : ℕ) (ps ns : List Float) (cs : List ℕ) {h : Header} → 3 * used ≤ length ps → used ≤ length cs
    → loop h ≡ (built_at (floats_at s at count) used ps ns cs).answer
    → (k : ℕ)
    → (triangulate_outcome h (corners (area_at number used h) (built_at (floats_at s at count) used ps ns cs).positions) (codes (area_at number used h) (built_at (floats_at s at count) used ps ns cs).classes) blank).answer ≡ refused k
    → k ≡ 8
unfolding built_at
eight_alone s at count used number ps ns cs p c e k z = of_list (floats_at s at count) (read_doubles s at count) used ps ns cs p c k e z
