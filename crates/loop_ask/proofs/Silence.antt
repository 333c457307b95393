-- A theorem for silence: `Outside` is answered only if the loop is empty, or three-cornered, or has insides; in every other case the answer is inside, mute or a
-- refusal, and mute exactly where the header is. So "outside" is never an empty answer, in plain mode and in long mode. Assumes nothing.
use Prim.Native.Nat.{ℕ, zero, suc, ◌≤◌, ◌<◌}
use mathlib.Core.Path.{◌≡◌, refl, sym, ap, subst}
use mathlib.Core.Bool.{Bool, true, false, false≢true, ◌&&◌}
use mathlib.Core.List.{List}
use native.Mathlib.Nat.{le_of_eq}
use native.Mathlib.Omega.{arith}
use lib.Dec.{eqb, ltb}
use lib.Ieee.{Float}
use borrow.Author.Tests.{ltb-true, ltb-false, leb-true, eqb-true, eqb-false, ne_eqb}
use Rattle.std.specs.Prelude.{Option, None, Some, if◌then◌else◌}
use Rattle.laws.proofs.Firsts.{first_zero_lem}
use Rattle.vec3.specs.declared.Vec3.{Vec3}
use Rattle.vec3.specs.Vec.{cleared}
use Rattle.loop_header.specs.declared.State.{State}
use Rattle.loop_header.specs.declared.State.TheVariants.{Empty, Full, Ring}
use Rattle.loop_header.specs.declared.Header.{Header}
use Rattle.loop_header.specs.Loops.{count_fits, is_absent, mute}
use Rattle.loop_header.proofs.Shapes.{both_true}
use Rattle.loop_header.proofs.Sounds.{sound}
use Rattle.ring_place.specs.Places.{in_triangle}
use Rattle.loop_ask.specs.Answers.{Told, refused, answer, judged}
use Rattle.loop_ask.specs.Places.{inside_code, place_no_corner, place_without, inside_with, place_by, place_of}
use Rattle.loop_ask.specs.Questions.{query_fault, place_answer}
use Rattle.loop_ask.specs.Silence.{Speaks, empty, three, with_insides, Other, refusal, inside, untold, Silence}

-- either way
data Either (h : Header) (t : Told) : Type 0 where
  speaks : Speaks h → Either h t
  other : Other t → Either h t

-- a count that is 3, above 3, or below it, where the state has it fit
by_count : (h : Header) (three more x : Bool) (s : State) → eqb h.count 3 ≡ three → ltb 3 h.count ≡ more → h.state ≡ s → count_fits s h.count ≡ true
    → Either h (answer (if three then inside_code x else (if more then 2 else place_no_corner s)))
by_count h true more x s e l f c = speaks (three (eqb-true _ _ e))
by_count h false true x s e l f c = other untold
by_count h false false x Empty e l f c = speaks (empty f)
by_count h false false x Full e l f c = other inside
by_count h false false x Ring e l f c =
    let least : 3 ≤ h.count = leb-true 3 h.count c in
    let most : h.count ≤ 3 = ltb-false 3 h.count l in
    absurd (eqb-false h.count 3 e (omega arith))

by_insides : (i : Option (Vec3 × Vec3)) (h : Header) (ps ns : List Float) (p : Vec3) → h.insides ≡ i → count_fits h.state h.count ≡ true → Either h (answer (place_by i h ps ns p))
unfolding place_without
by_insides None h ps ns p e f = by_count h (eqb h.count 3) (ltb 3 h.count) (in_triangle ps ns p) h.state refl refl refl f
by_insides (Some (a, b)) h ps ns p e f = speaks (with_insides a b e)

by_refusal : (k : ℕ) {h : Header} {t : Told} → (k ≡ 0 → Either h t) → Either h (judged k t)
by_refusal zero f = f refl
by_refusal (suc k) f = other (refusal (suc k))

one_or_other : (h : Header) (ps ns : List Float) (cs : List ℕ) (p : Vec3) → Either h (place_answer h ps ns cs p)
unfolding place_answer query_fault
one_or_other h ps ns cs p =
    by_refusal (query_fault h ps ns cs (cleared p))
    (λ z. by_insides h.insides h ps ns (cleared p) refl (sound h ps ns cs (first_zero_lem _ _ z).0).ring.shaped.fits)

-- the same as two sentences
number : Told → ℕ
number (refused k) = 1
number (answer n) = n

not_outside : {t : Told} → Other t → t ≡ answer 0 → ⊥
unfolding number
not_outside (refusal k) e = let h : ◌≡◌ {A = ℕ} 1 0 = ap number e in omega arith
not_outside inside e = let h : ◌≡◌ {A = ℕ} 1 0 = ap number e in omega arith
not_outside untold e = let h : ◌≡◌ {A = ℕ} 2 0 = ap number e in omega arith

pub outside_speaks : (h : Header) (ps ns : List Float) (cs : List ℕ) (p : Vec3) → place_answer h ps ns cs p ≡ answer 0 → Speaks h
outside_speaks h ps ns cs p e = which (subst (Either h) e (one_or_other h ps ns cs p))
  where
    which : Either h (answer 0) → Speaks h
    which (speaks s) = s
    which (other o) = absurd (not_outside o refl)

pub silent_otherwise : (h : Header) (ps ns : List Float) (cs : List ℕ) (p : Vec3) → (Speaks h → ⊥) → Other (place_answer h ps ns cs p)
silent_otherwise h ps ns cs p f = which (one_or_other h ps ns cs p)
  where
    which : {t : Told} → Either h t → Other t
    which (speaks s) = absurd (f s)
    which (other o) = o

-- ---- mute
inside_small : (b : Bool) → inside_code b ≤ 1
inside_small true = omega arith
inside_small false = omega arith

corner_small : (s : State) → place_no_corner s ≤ 1
corner_small Empty = omega arith
corner_small Full = omega arith
corner_small Ring = omega arith

-- 2 and above is the code of no place but of one asked of a ring above three without insides
muted : (three more x : Bool) (s : State) → 2 ≤ (if three then inside_code x else (if more then 2 else place_no_corner s)) → more ≡ true
muted true more x s e = absurd (omega (arith, inside_small x))
muted false true x s e = refl
muted false false x s e = absurd (omega (arith, corner_small s))

pub code_mute : (h : Header) (ps ns : List Float) (p : Vec3) → 2 ≤ place_of h ps ns p → mute h ≡ true
unfolding place_without
code_mute h ps ns p e = go h.insides e
  where
    go : (i : Option (Vec3 × Vec3)) → 2 ≤ place_by i h ps ns p → (ltb 3 h.count && is_absent i) ≡ true
    go None e = rw (muted (eqb h.count 3) (ltb 3 h.count) (in_triangle ps ns p) h.state e)
    go (Some (a, b)) e = absurd (omega (arith, inside_small (inside_with h a b ps ns p)))

above : (n : ℕ) → 3 < n → n ≡ 3 → ⊥
above n l e = omega arith

pub mute_code : (h : Header) (ps ns : List Float) (p : Vec3) → mute h ≡ true → place_of h ps ns p ≡ 2
unfolding place_without
mute_code h ps ns p e = go h.insides e
  where
    go : (i : Option (Vec3 × Vec3)) → (ltb 3 h.count && is_absent i) ≡ true → place_by i h ps ns p ≡ 2
    go None e = let m = (both_true (ltb 3 h.count) true e).0 in rw (ne_eqb h.count 3 (above h.count (ltb-true 3 h.count m)), m)
    go (Some (a, b)) e = absurd (false≢true (both_true (ltb 3 h.count) false e).1)

told_mute : (k n : ℕ) → judged k (answer n) ≡ answer 2 → (k ≡ 0) × (n ≡ 2)
unfolding number
told_mute zero n e = (refl, ap number e)
told_mute (suc k) n e = let z : ◌≡◌ {A = ℕ} 1 2 = ap number e in absurd (omega arith)

pub silence : (h : Header) (ps ns : List Float) (cs : List ℕ) (p : Vec3) → Silence h ps ns cs p
unfolding place_answer
silence h ps ns cs p = record {
  outside_speaks = outside_speaks h ps ns cs p;
  silent_otherwise = silent_otherwise h ps ns cs p;
  mute_only = λ e. let m = told_mute (query_fault h ps ns cs (cleared p)) (place_of h ps ns (cleared p)) e in (m.0, code_mute h ps ns (cleared p) (le_of_eq (sym m.1)));
  mute_always = λ f m. rw (f, mute_code h ps ns (cleared p) m);
}
