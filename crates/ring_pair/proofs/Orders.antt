-- How two rings stand does not depend on the order in which their edges are compared: by the first ring's edges, as the code goes, or by the second's. Assumes nothing.
use Prim.Native.Nat.{ℕ, zero, suc}
use mathlib.Core.Bool.{Bool, true, false, ◌||◌}
use mathlib.Core.Path.{◌≡◌, refl, ap, ap₂, ◌∙◌}
use mathlib.Core.List.{List}
use lib.Ieee.{Float}
use Rattle.laws.specs.Loop.{any_of}
use Rattle.minor_arc.specs.declared.Mode.{Mode}
use Rattle.ring_edges.specs.Edges.{edge_at}
use Rattle.ring_pair.specs.Contacts.{graded, crosses, touches, any_crosses, any_touches, contact_of}

none_of : (m k : ℕ) → false ≡ any_of (λ j. false) m k
unfolding any_of
none_of zero k = refl
none_of (suc m) k = none_of m (suc k)

shuffle : (a b c d : Bool) → (a || b) || (c || d) ≡ (a || c) || (b || d)
shuffle true b c d = refl
shuffle false true true d = refl
shuffle false true false d = refl
shuffle false false c d = refl

both_of : (p q : ℕ → Bool) (m k : ℕ) → any_of p m k || any_of q m k ≡ any_of (λ j. p j || q j) m k
unfolding any_of
both_of p q zero k = refl
both_of p q (suc m) k = shuffle (p k) (any_of p m (suc k)) (q k) (any_of q m (suc k)) ∙ ap (λ (b : Bool). (p k || q k) || b) (both_of p q m (suc k))

swap : (f : ℕ → ℕ → Bool) (n m i : ℕ) → any_of (λ i. any_of (f i) m 0) n i ≡ any_of (λ j. any_of (λ i. f i j) n i) m 0
unfolding any_of
swap f zero m i = none_of m 0
swap f (suc n) m i = ap (λ (b : Bool). any_of (f i) m 0 || b) (swap f n m (suc i)) ∙ both_of (f i) (λ j. any_of (λ i. f i j) n (suc i)) m 0

module _ (mode : Mode) (ps ns : List Float) (n : ℕ) (os om : List Float) (m : ℕ) where
  abbrev pub crossed_by : ℕ → Bool
  crossed_by j = any_of (λ i. crosses mode (edge_at ps ns n i) os om m j) n 0

  abbrev pub touched_by : ℕ → Bool
  touched_by j = any_of (λ i. touches mode (edge_at ps ns n i) os om m j) n 0

  pub either_order : contact_of mode ps ns n os om m ≡ graded (any_of crossed_by m 0) (any_of touched_by m 0)
  unfolding contact_of any_crosses any_touches
  either_order = ap₂ graded (swap (λ i. crosses mode (edge_at ps ns n i) os om m) n m 0) (swap (λ i. touches mode (edge_at ps ns n i) os om m) n m 0)
