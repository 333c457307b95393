-- A ring that is built has no more corners than the list has positions. Assumes nothing.
use Prim.Native.Nat.{ℕ, zero, suc, ◌*◌, ◌/◌, ◌≤◌}
use mathlib.Core.Path.{◌≡◌, ap}
use mathlib.Core.Bool.{Bool, true, false}
use mathlib.Core.List.{List}
use native.Mathlib.Omega.{arith}
use lib.ListN.{length, drop}
use lib.Dec.{ltb}
use lib.Ieee.{Float}
use Rattle.wire.proofs.Lays.{floats_length}
use Rattle.angle.specs.Angles.{weak}
use Rattle.ring_turns.specs.Turns.{turn_sum}
use Rattle.ring_corners.specs.Corners.{reversal, classes_of, all_both}
use Rattle.ring_corners.proofs.Openings.{opened_le}
use Rattle.minor_arc.specs.declared.Mode.{Mode}
use Rattle.minor_arc.specs.declared.Mode.TheVariants.{Plain}
use Rattle.loop_header.specs.declared.Header.{Header}
use Rattle.loop_header.specs.Loops.{empty_header, full_header}
use Rattle.loop_build.specs.Build.{loop, opened_count, refusal, ring_header, made, made_if, build_outcome, outcome_by, outcome_if}
use Rattle.scene_records.specs.Records.{floats_at}
use Rattle.scene_store.specs.Store.{built_at}

pub floats_count : (s : List ℕ) (at n : ℕ) → length (floats_at s at n) ≡ 3 * n
floats_count s at n = floats_length s at (3 * n)

same_header : {a b : Header} → loop a ≡ loop b → a.count ≡ b.count
same_header {a} {b} e = let q : a ≡ b = cc in ap (λ (h : Header). h.count) q

module _ (mode : Mode) (l ps ns : List Float) (cs : List ℕ) {h : Header} where
  of_made : (b : Bool) (n : ℕ) (r : Bool) → n ≤ length l / 3 → loop h ≡ loop (made_if b mode l n r ps ns cs).header → h.count ≤ length l / 3
  unfolding ring_header
  of_made true n r g e = omega (arith, same_header {a = h} {b = full_header mode (weak (turn_sum l n))} e)
  of_made false n r g e = omega (arith, same_header {a = h} {b = ring_header mode l n r} e)

  of_if : (b : Bool) (n : ℕ) → n ≤ length l / 3 → loop h ≡ (outcome_if b mode l n ps ns cs).answer → h.count ≤ length l / 3
  unfolding made
  of_if true n g e = omega (arith, same_header {a = h} {b = empty_header mode} e)
  of_if false n g e = of_made (all_both (classes_of l n (reversal l n))) n (reversal l n) g e

  of_refusal : (k : ℕ) → loop h ≡ (outcome_by k mode l ps ns cs).answer → h.count ≤ length l / 3
  of_refusal zero e = of_if (ltb (opened_count l) 3) (opened_count l) (opened_le l (length l / 3)) e
  of_refusal (suc k) e = absurd (let z : ◌≡◌ {A = ℕ} 0 1 = cc in omega arith)

  pub count_le : loop h ≡ (build_outcome mode l ps ns cs).answer → h.count ≤ length l / 3
  unfolding build_outcome
  count_le e = of_refusal (refusal l ps ns cs) e

pub built_count : (s : List ℕ) (at n used : ℕ) (ps ns : List Float) (cs : List ℕ) {h : Header} → loop h ≡ (built_at (floats_at s at n) used ps ns cs).answer → h.count ≤ n
unfolding built_at
built_count s at n used ps ns cs e =
    omega (arith, count_le Plain (floats_at s at n) (drop (3 * used) ps) (drop (3 * used) ns) (drop used cs) e, floats_count s at n)
