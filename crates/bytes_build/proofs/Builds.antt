-- A loop that was built in arrays, and its bytes. Assumes nothing.
use Prim.Native.Nat.{ℕ, zero, suc, ◌*◌, ◌/◌, ◌%◌, ◌≤◌, ◌<◌}
use mathlib.Core.Path.{◌≡◌, refl, sym, ap, ◌∙◌, subst}
use mathlib.Core.Logic.{◌⊎◌, inl, inr}
use mathlib.Core.Bool.{Bool, true, false, ◌&&◌, ◌||◌, cond}
use mathlib.Core.List.{List, [], ◌∷◌, ◌++◌, append-nil}
use native.Mathlib.Omega.{arith}
use lib.ListN.{length, take, drop, drop_of_length-le}
use lib.Seq.{sets, take_at, length-take-le}
use lib.Dec.{leb, ltb}
use lib.Ieee.{Float}
use borrow.Author.Tests.{lt-ltb, le-ltb, ltb-true, ltb-false, eq-eqb, ne_eqb}
use Rattle.laws.specs.Loop.{first}
use Rattle.laws.proofs.Copies.{length_flat}
use Rattle.ring_corners.specs.Corners.{corner_at, normal_at, class_at, ring_of, normals_of, classes_of, reversal, all_both}
use Rattle.vec3.proofs.Arrays.{size}
use Rattle.minor_arc.specs.declared.Mode.{Mode}
use Rattle.loop_header.specs.declared.Header.{Header}
use Rattle.loop_build.specs.Build as B
use Rattle.loop_build.proofs.Rooms.{list_fine}
use Rattle.loop_build.proofs.Rooms as R
use Rattle.wire.specs.Wire.{vec_size}
use Rattle.wire.proofs.Lays.{floats_length}
use Rattle.bytes_loop.specs.Outcome.{Outcome, outcome, refusal_of}
use Rattle.bytes_loop.specs.Layout.{header_size, Parts}
use Rattle.bytes_loop.proofs.Faults.{by_outcome}
use Rattle.bytes_loop.proofs.Parts.{behind}
use Rattle.bytes_build.specs.Build.{made_if, made_of, made_bytes, built_outcome, build_outcome, list_at, Roomy, Fitting, front, loop_outcome, out_outcome, header_outcome, floats_outcome, short_header, Counted}
use Rattle.bytes_build.proofs.Rooms.{need_none, need_header, same_refusal, fits, no_need, header_need}

-- ---- the front of what was written is the loop
abbrev emptied : {A : Type 0} → List A → List A
emptied a = []

cut : {A : Type 0} (a b : List A) (k : ℕ) → length a ≡ k → take k (a ++ drop k b) ≡ a ++ drop k []
cut a b k e =
    let none : length (emptied a) ≤ k = omega arith in
    rw (take_at a (drop k b) k e, drop_of_length-le (emptied a) none, append-nil)

module _ (mode : Mode) (l : List Float) (n : ℕ) where
  front_made : (b t : Bool) (ps ns : List Float) (cs : List ℕ) → let m = B.made_if b mode l n t ps ns cs in front m.header m.positions m.normals m.classes ≡ B.made_if b mode l n t [] [] []
  unfolding B.ring_header
  front_made true t ps ns cs = refl
  front_made false t ps ns cs =
      let corners = cut (ring_of l n t) ps (3 * n) (size (corner_at l n t) n) in
      let normals = cut (normals_of l n t) ns (3 * n) (size (normal_at l n t) n) in
      let classes = cut (classes_of l n t) cs n (length_flat (λ k. class_at l n t k ∷ []) (λ j. refl) n 0) in
      rw (corners, normals, classes)

  made_count : (b t : Bool) → (B.made_if b mode l n t [] [] []).header.count ≤ n
  unfolding B.ring_header
  made_count true t = omega arith
  made_count false t = omega arith

  same_header : (b t : Bool) (ps ns : List Float) (cs : List ℕ) → (B.made_if b mode l n t ps ns cs).header ≡ (B.made_if b mode l n t [] [] []).header
  same_header true t ps ns cs = refl
  same_header false t ps ns cs = refl

  module _ (ps ns : List Float) (cs : List ℕ) where
    pub header_is : (b : Bool) → (B.outcome_if b mode l n ps ns cs).answer ≡ B.loop (made_if b mode l n).header
    unfolding B.made
    header_is true = refl
    header_is false = ap B.loop (same_header (all_both (classes_of l n (reversal l n))) (reversal l n) ps ns cs)

    pub front_is : (b : Bool) → let x = B.outcome_if b mode l n ps ns cs in front (made_if b mode l n).header x.positions x.normals x.classes ≡ made_if b mode l n
    unfolding B.made
    front_is true = refl
    front_is false = rw (← same_header (all_both (classes_of l n (reversal l n))) (reversal l n) ps ns cs) (front_made (all_both (classes_of l n (reversal l n))) (reversal l n) ps ns cs)

  pub count_most : (b : Bool) → (made_if b mode l n).header.count ≤ n
  unfolding B.made
  count_most true = omega arith
  count_most false = made_count (all_both (classes_of l n (reversal l n))) (reversal l n)

-- ---- the answer tells whether there was a refusal
module _ (mode : Mode) (l ps ns : List Float) (cs : List ℕ) where
  refused_is : (k f : ℕ) → B.refused f ≡ (B.outcome_by k mode l ps ns cs).answer → (f ≡ k) × (k ≡ 0 → ⊥)
  refused_is zero f e =
      let g = e ∙ header_is mode l (B.opened_count l) ps ns cs (ltb (B.opened_count l) 3) in
      let z : ◌≡◌ {A = ℕ} 0 1 = cc in
      absurd (omega arith)
  refused_is (suc k) f e = ((cc), λ z. omega arith)

  looped_is : (k : ℕ) (h : Header) → B.loop h ≡ (B.outcome_by k mode l ps ns cs).answer → k ≡ 0
  looped_is zero h e = refl
  looped_is (suc k) h e = let z : ◌≡◌ {A = ℕ} 0 1 = cc in absurd (omega arith)

module _ (mode : Mode) (l ps ns : List Float) (cs out : List ℕ) (w : Roomy (length out) (length ps) (length ns) (length cs)) {ps' ns' : List Float} {cs' : List ℕ} where
  pub was_refused : {f : ℕ} → record { answer = B.refused f; positions = ps'; normals = ns'; classes = cs' } ≡ B.build_outcome mode l ps ns cs → outcome (refusal_of f) out ≡ built_outcome mode l out
  unfolding B.build_outcome built_outcome
  was_refused {f} e =
      let a = refused_is mode l ps ns cs (B.refusal l ps ns cs) f (ap (λ (x : B.Outcome). x.answer) e) in
      rw (same_refusal l ps ns cs (length out) w a.1, ← a.0) (by_outcome f out _ (λ z. a.1 (sym a.0 ∙ z)))

  module _ {h : Header} (e : record { answer = B.loop h; positions = ps'; normals = ns'; classes = cs' } ≡ B.build_outcome mode l ps ns cs) where
    none : B.refusal l ps ns cs ≡ 0
    unfolding B.build_outcome
    none = looped_is mode l ps ns cs (B.refusal l ps ns cs) h (ap (λ (x : B.Outcome). x.answer) e)

    whole : record { answer = B.loop h; positions = ps'; normals = ns'; classes = cs' } ≡ B.outcome_if (ltb (B.opened_count l) 3) mode l (B.opened_count l) ps ns cs
    unfolding B.build_outcome
    whole = e ∙ ap (λ (k : ℕ). B.outcome_by k mode l ps ns cs) none

    header_of_lem : h ≡ (made_of mode l).header
    unfolding made_of
    header_of_lem = let g = ap (λ (x : B.Outcome). x.answer) whole ∙ header_is mode l (B.opened_count l) ps ns cs (ltb (B.opened_count l) 3) in cc

    front_of : front h ps' ns' cs' ≡ made_of mode l
    unfolding made_of
    front_of = rw (header_of_lem, ap (λ (x : B.Outcome). x.positions) whole, ap (λ (x : B.Outcome). x.normals) whole, ap (λ (x : B.Outcome). x.classes) whole) (front_is mode l (B.opened_count l) ps ns cs (ltb (B.opened_count l) 3))

    short : length out < header_size → loop_outcome h ps' ns' cs' out ≡ built_outcome mode l out
    unfolding loop_outcome built_outcome
    short g = rw (lt-ltb _ _ g, header_need l ps ns cs (length out) w none g)

    enough : header_size ≤ length out → loop_outcome h ps' ns' cs' out ≡ built_outcome mode l out
    unfolding loop_outcome built_outcome
    enough g = rw (le-ltb _ _ g, no_need l ps ns cs (length out) w none g) (ap (λ (m : B.Made). outcome m.header.count (sets out 0 (made_bytes m))) front_of)

    pub was_written : {x : Outcome ℕ} → x ≡ loop_outcome h ps' ns' cs' out → x ≡ built_outcome mode l out
    was_written q = q ∙ at (ltb (length out) header_size) refl
      where
        at : (b : Bool) → ltb (length out) header_size ≡ b → loop_outcome h ps' ns' cs' out ≡ built_outcome mode l out
        at true t = short (ltb-true _ _ t)
        at false t = enough (ltb-false _ _ t)

    -- the loop fits
    counted : h.count ≤ length cs
    unfolding made_of
    counted = at (ltb (B.opened_count l) 3) refl
      where
        at : (b : Bool) → ltb (B.opened_count l) 3 ≡ b → h.count ≤ length cs
        at true t = rw (header_of_lem, t) (omega arith)
        at false t = omega (arith, fits l ps ns cs (length out) w none (ltb-false _ _ t), rw (← header_of_lem) at (count_most mode l (B.opened_count l) (ltb (B.opened_count l) 3)))

    pub fitting : length ps' ≡ length ps → length ns' ≡ length ns → length cs' ≡ length cs → Fitting h (length out) (length ps') (length ns') (length cs')
    fitting p q r =
        let b = behind (length out) in
        record {
          most = omega (arith, counted, b.most, w.for_classes);
          within = λ g. omega (arith, counted, b.within g, w.for_classes);
          for_positions = omega (arith, counted, w.for_positions, w.for_classes);
          for_normals = omega (arith, counted, w.for_normals, w.for_classes);
          for_classes = omega (arith, counted);
        }

-- ---- the front of the arrays is what is written
module _ (h : Header) (ps ns : List Float) (cs : List ℕ) {out : ℕ} (f : Fitting h out (length ps) (length ns) (length cs)) where
  pub parts : header_size ≤ out → Parts h out (length (take (3 * h.count) ps)) (length (take (3 * h.count) ns)) (length (take h.count cs))
  parts g = record {
    room = f.within g;
    for_positions = length-take-le _ ps f.for_positions;
    for_normals = length-take-le _ ns f.for_normals;
    for_classes = length-take-le _ cs f.for_classes;
  }

-- ---- lists in bytes
pub unread : (mode : Mode) (s out : List ℕ) → (length s % vec_size ≡ 0 → ⊥) → outcome (refusal_of 1) out ≡ build_outcome mode s out
unfolding build_outcome
unread mode s out h = rw (ne_eqb _ _ h)

module _ (mode : Mode) (s out : List ℕ) (h : length s % vec_size ≡ 0) where
  pub in_bytes : {x : Outcome ℕ} → x ≡ built_outcome mode (list_at s) out → x ≡ build_outcome mode s out
  unfolding build_outcome
  in_bytes q = rw (eq-eqb _ _ h) q

  too_many : 512 < length s / vec_size → B.list_fault (list_at s) ≡ 2
  unfolding B.list_fault
  too_many g =
      let e = floats_length s 0 (length s / 8) in
      let a : length s / 8 % 3 ≡ 0 = omega arith in
      let b : 512 < length s / 8 / 3 = omega arith in
      rw (e, eq-eqb _ _ a, lt-ltb _ _ b)

  pub too_long_lem : 512 < length s / vec_size → outcome (refusal_of 2) out ≡ build_outcome mode s out
  unfolding built_outcome
  too_long_lem g = in_bytes (rw (too_many g))

-- ---- with the header alone in bytes
five_or_none : (n p q r : ℕ) → (B.room_fault n p q r ≡ 0) ⊎ (B.room_fault n p q r ≡ 5)
unfolding B.room_fault
five_or_none n p q r = at (leb 3 n && ((ltb p (3 * n) || ltb q (3 * n)) || ltb r n))
  where
    at : (b : Bool) → (◌≡◌ {A = ℕ} (cond b 5 0) 0) ⊎ (◌≡◌ {A = ℕ} (cond b 5 0) 5)
    at true = inr refl
    at false = inl refl

one_five : (a b : ℕ) → (b ≡ 0) ⊎ (b ≡ 5) → first (first a b) 5 ≡ first a 5
one_five (suc a) b o = refl
one_five zero b (inl e) = rw e
one_five zero b (inr e) = rw e

first_none : (a : ℕ) → first a 0 ≡ a
first_none zero = refl
first_none (suc a) = refl

module _ (mode : Mode) (l ps ns : List Float) (cs header : List ℕ) where
  short_five : first (B.refusal l ps ns cs) 5 ≡ first (B.list_fault l) 5
  unfolding B.refusal
  short_five = one_five (B.list_fault l) _ (five_or_none (B.opened_count l) (length ps) (length ns) (length cs))

  pub unheaded : {r : ℕ} → length header < header_size → r ≡ short_header l → record { number = r; header = header; positions = ps; normals = ns; classes = cs } ≡ floats_outcome mode l header ps ns cs
  unfolding floats_outcome
  unheaded g q = rw (need_header (length header) 0 g, short_five, q) (at (B.list_fault l))
    where
      at : (f : ℕ) → record { number = refusal_of (first f 5); header = header; positions = ps; normals = ns; classes = cs } ≡ out_outcome (B.outcome_by (first f 5) mode l ps ns cs) header
      at zero = refl
      at (suc f) = refl

  room_above : header_size ≤ length header → floats_outcome mode l header ps ns cs ≡ out_outcome (B.build_outcome mode l ps ns cs) header
  unfolding floats_outcome B.build_outcome
  room_above g = rw (need_none (length header) 0 g (λ (z : 3 ≤ 0). absurd (omega arith)), first_none (B.refusal l ps ns cs))

  counted_by : (k : ℕ) → B.refusal l ps ns cs ≡ k → Counted (B.outcome_by k mode l ps ns cs).answer
  counted_by (suc k) e = tt
  counted_by zero e =
      let m = list_fine l (R.fine l ps ns cs e).0 in
      subst (λ (x : B.Told). Counted x) (sym (header_is mode l (B.opened_count l) ps ns cs (ltb (B.opened_count l) 3))) (omega (arith, m.small, count_most mode l (B.opened_count l) (ltb (B.opened_count l) 3)))

  module _ {u : B.Told} {ps' ns' : List Float} {cs' : List ℕ} (e : record { answer = u; positions = ps'; normals = ns'; classes = cs' } ≡ B.build_outcome mode l ps ns cs) where
    pub counted_told : Counted u
    unfolding B.build_outcome
    counted_told = subst (λ (x : B.Told). Counted x) (sym (ap (λ (o : B.Outcome). o.answer) e)) (counted_by (B.refusal l ps ns cs) refl)

    pub headed : {r : ℕ} {header' : List ℕ} → header_size ≤ length header → outcome r header' ≡ header_outcome u header
        → record { number = r; header = header'; positions = ps'; normals = ns'; classes = cs' } ≡ floats_outcome mode l header ps ns cs
    headed g q = rw (room_above g, ap (λ (x : Outcome ℕ). x.number) q, ap (λ (x : Outcome ℕ). x.out) q) (ap (λ (o : B.Outcome). out_outcome o header) e)
