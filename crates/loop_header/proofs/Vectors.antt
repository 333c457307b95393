-- Refusal 3 of a loop's normals, cap and insides: exactly when. Assumes nothing.
use Prim.Native.Nat.{ℕ, suc, ◌<◌}
use mathlib.Core.Path.{◌≡◌, refl, subst}
use mathlib.Core.Bool.{Bool, true, false, cond, ◌&&◌}
use mathlib.Core.Logic.{◌⊎◌, inl, inr, ⊎_elim}
use mathlib.Core.List.{List}
use native.Mathlib.Omega.{arith}
use lib.Ieee.{Float}
use Rattle.std.specs.Prelude.{Option, None, Some}
use Rattle.numbers.specs.Finite.{finite}
use Rattle.laws.specs.Loop.{first}
use Rattle.laws.proofs.Firsts.{first_zero_lem, first_given, first_left, first_right, test_passed}
use Rattle.vec3.specs.declared.Vec3.{Vec3}
use Rattle.vec3.specs.Vec.{pos_at}
use Rattle.cap.specs.declared.Cap.{Cap}
use Rattle.judge.specs.Judge.{finite_vec, vector_fault}
use Rattle.judge.specs.Judge as J
use Rattle.judge.specs.Why.{Exactly, Then, stops, goes_on_lem, Finite, NotFinite, VectorWhy, finite_vector, not_finite_vector}
use Rattle.judge.proofs.Exactly.{exactly, Tells, tells, both_tell, then_exact, SomeWhy, some, every, some_exact}
use Rattle.judge.proofs.Exact as Judge
use Rattle.loop_header.specs.declared.Header.{Header}
use Rattle.loop_header.specs.Loops.{cap_fault, insides_fault, vectors_fault}
use Rattle.loop_header.specs.Why.{FiniteInsides, no_insides, finite_insides, NotFiniteInsides, first_inside_lem, second_inside_lem}
use Rattle.loop_header.specs.Why.{VectorsWhy, normal, centre, radius, inside, all_finite}

-- whichever it is, 3 is the only number
data Three : ℕ → Type 0 where
  not_three : Three 0
  three : Three 3

three_later : {a : ℕ} (b : ℕ) → Three a → b ≡ 3 → first a b ≡ 3
three_later b not_three e = e
three_later b three e = refl

three_first : {a b : ℕ} → Three a → Three b → Three (first a b)
three_first not_three y = y
three_first three y = three

vector_three : (v : Vec3) → Three (vector_fault v 0)
vector_three v = is (((Judge.exact).vector v).given_why _ refl)
  where
    is : {k : ℕ} → VectorWhy v k → Three k
    is (finite_vector f) = not_three
    is (not_finite_vector f) = three

finite_fault : {v : Vec3} → Finite v → vector_fault v 0 ≡ 0
finite_fault {v} f = ((Judge.exact).vector v).why_given 0 (finite_vector f)

not_finite_fault : {v : Vec3} → NotFinite v → vector_fault v 0 ≡ 3
not_finite_fault {v} f = ((Judge.exact).vector v).why_given 3 (not_finite_vector f)

fault_finite : {v : Vec3} → VectorWhy v 0 → Finite v
fault_finite (finite_vector f) = f

fault_not_finite : {v : Vec3} → VectorWhy v 3 → NotFinite v
fault_not_finite (not_finite_vector f) = f

only_three : (v : Vec3) (k : ℕ) → VectorWhy v (suc k) → k ≡ 2
only_three v _ (not_finite_vector f) = refl

abbrev NormalsWhy : List Float → ℕ → ℕ → Type 0
NormalsWhy ns n = SomeWhy (λ i. VectorWhy (pos_at ns i)) n 2

normals_exact : (ns : List Float) (n : ℕ) → Exactly (J.vectors_fault ns n) (NormalsWhy ns n)
normals_exact ns n = some_exact {Why = λ i. VectorWhy (pos_at ns i)} n 2 (λ i h. (Judge.exact).vector (pos_at ns i)) (λ i k w. only_three (pos_at ns i) k w)

normals_three : (ns : List Float) (n : ℕ) → Three (J.vectors_fault ns n)
normals_three ns n = is ((normals_exact ns n).given_why _ refl)
  where
    is : {k : ℕ} → NormalsWhy ns n k → Three k
    is (some i h w) = three
    is (every b) = not_three

-- the cap, and the insides
cap_tells : (c : Cap) → Tells (finite_vec c.centre && finite c.radius.0) (Finite c.centre × (finite c.radius.0 ≡ true)) (NotFinite c.centre ⊎ (finite c.radius.0 ≡ false))
cap_tells c = both_tell (Judge.finite_tells c.centre) (tells (finite c.radius.0))

cap_three : (c : Cap) → Three (cap_fault c)
unfolding cap_fault
cap_three c = is (finite_vec c.centre && finite c.radius.0)
  where
    is : (b : Bool) → Three (cond b 0 3)
    is true = not_three
    is false = three

finite_cap : (c : Cap) → cap_fault c ≡ 0 → Finite c.centre × (finite c.radius.0 ≡ true)
unfolding cap_fault
finite_cap c e = (cap_tells c).yes (test_passed _ 2 e)

not_finite_cap : (c : Cap) → cap_fault c ≡ 3 → NotFinite c.centre ⊎ (finite c.radius.0 ≡ false)
unfolding cap_fault
not_finite_cap c e = (cap_tells c).no (failed _ e)
  where
    failed : (b : Bool) → ◌≡◌ {A = ℕ} (cond b 0 3) 3 → b ≡ false
    failed true e = absurd (omega arith)
    failed false e = refl

cap_fine : (c : Cap) → Finite c.centre → finite c.radius.0 ≡ true → cap_fault c ≡ 0
unfolding cap_fault
cap_fine c f r = rw ((cap_tells c).good (f, r))

cap_not : (c : Cap) → NotFinite c.centre ⊎ (finite c.radius.0 ≡ false) → cap_fault c ≡ 3
unfolding cap_fault
cap_not c f = rw ((cap_tells c).bad f)

data InsidesWhy (i : Option (Vec3 × Vec3)) : ℕ → Type 0 where
  insides_fine : FiniteInsides i → InsidesWhy i 0
  insides_not : NotFiniteInsides i → InsidesWhy i 3

insides_three : {i : Option (Vec3 × Vec3)} {k : ℕ} → InsidesWhy i k → Three k
insides_three (insides_fine f) = not_three
insides_three (insides_not f) = three

two_why : {a b : Vec3} {k : ℕ} → Then (VectorWhy a) (VectorWhy b) k → InsidesWhy (Some (a, b)) k
two_why (stops (not_finite_vector f)) = insides_not (first_inside_lem f)
two_why (goes_on_lem w (finite_vector f)) = insides_fine (finite_insides (fault_finite w) f)
two_why (goes_on_lem w (not_finite_vector f)) = insides_not (second_inside_lem f)

insides_why : (i : Option (Vec3 × Vec3)) → InsidesWhy i (insides_fault i)
insides_why None = insides_fine no_insides
insides_why (Some (a, b)) = two_why ((then_exact ((Judge.exact).vector a) (λ z. (Judge.exact).vector b)).given_why _ refl)

why_insides : (i : Option (Vec3 × Vec3)) (k : ℕ) → InsidesWhy i k → insides_fault i ≡ k
why_insides _ _ (insides_fine no_insides) = refl
why_insides _ _ (insides_fine (finite_insides f g)) = first_right _ _ (finite_fault f) (finite_fault g)
why_insides _ _ (insides_not (first_inside_lem f)) = first_left _ _ 2 (not_finite_fault f)
why_insides _ _ (insides_not (second_inside_lem {a} {b} f)) = three_later (vector_fault b 0) (vector_three a) (not_finite_fault f)

module _ (h : Header) (ns : List Float) where
  rest_three : Three (first (cap_fault h.cap) (insides_fault h.insides))
  rest_three = three_first (cap_three h.cap) (insides_three (insides_why h.insides))

  none_why : vectors_fault h ns ≡ 0 → VectorsWhy h ns 0
  unfolding vectors_fault
  none_why e =
      let a = first_zero_lem _ _ e in
      let b = first_zero_lem _ _ a.1 in
      let c = finite_cap h.cap b.0 in
      all_finite (normals ((normals_exact ns h.count).given_why 0 a.0)) c.0 c.1 (insides (subst (InsidesWhy h.insides) b.1 (insides_why h.insides)))
    where
      normals : NormalsWhy ns h.count 0 → (i : ℕ) → i < h.count → Finite (pos_at ns i)
      normals (every b) i l = fault_finite (b i l)

      insides : {i : Option (Vec3 × Vec3)} → InsidesWhy i 0 → FiniteInsides i
      insides (insides_fine f) = f

  three_why : vectors_fault h ns ≡ 3 → VectorsWhy h ns 3
  unfolding vectors_fault
  three_why e = ⊎_elim
      (λ p. normals ((normals_exact ns h.count).given_why 3 p))
      (λ p. ⊎_elim
      (λ q. ⊎_elim centre radius (not_finite_cap h.cap q))
      (λ q. inside (insides (subst (InsidesWhy h.insides) q.1 (insides_why h.insides))))
      (first_given (cap_fault h.cap) (insides_fault h.insides) 2 p.1))
      (first_given (J.vectors_fault ns h.count) _ 2 e)
    where
      normals : NormalsWhy ns h.count 3 → VectorsWhy h ns 3
      normals (some i l w) = normal i l (fault_not_finite w)

      insides : {i : Option (Vec3 × Vec3)} → InsidesWhy i 3 → NotFiniteInsides i
      insides (insides_not f) = f

  vectors_three : Three (vectors_fault h ns)
  unfolding vectors_fault
  vectors_three = three_first (normals_three ns h.count) rest_three

  vectors_why : {k : ℕ} → Three k → vectors_fault h ns ≡ k → VectorsWhy h ns k
  vectors_why not_three e = none_why e
  vectors_why three e = three_why e

  rest_first : first (cap_fault h.cap) (insides_fault h.insides) ≡ 3 → vectors_fault h ns ≡ 3
  unfolding vectors_fault
  rest_first e = three_later _ (normals_three ns h.count) e

  why_vectors : (k : ℕ) → VectorsWhy h ns k → vectors_fault h ns ≡ k
  why_vectors _ (normal i l f) = unfold vectors_fault in first_left _ _ 2 ((normals_exact ns h.count).why_given 3 (some i l (not_finite_vector f)))
  why_vectors _ (centre f) = rest_first (first_left _ _ 2 (cap_not h.cap (inl f)))
  why_vectors _ (radius f) = rest_first (first_left _ _ 2 (cap_not h.cap (inr f)))
  why_vectors _ (inside f) = rest_first (three_later _ (cap_three h.cap) (why_insides h.insides 3 (insides_not f)))
  why_vectors _ (all_finite n c r f) =
      unfold vectors_fault in
      first_right _ _ ((normals_exact ns h.count).why_given 0 (every (λ i l. finite_vector (n i l))))
      (first_right _ _ (cap_fine h.cap c r) (why_insides h.insides 0 (insides_fine f)))

  pub vectors_exact : Exactly (vectors_fault h ns) (VectorsWhy h ns)
  vectors_exact = exactly (VectorsWhy h ns) (vectors_why vectors_three refl) why_vectors
