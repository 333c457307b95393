-- The last triple: a ring of three is its own net. Assumes nothing.
use Prim.Native.Nat.{ℕ, zero, suc, ◌+◌, ◌<◌}
use mathlib.Core.Path.{◌≡◌, refl, sym, subst, subst₂}
use mathlib.Core.Logic.{◌⊎◌, inl, inr}
use mathlib.Core.List.{List, [], ◌∷◌}
use native.Mathlib.Omega.{arith}
use lib.ListN.{length, get_or}
use Rattle.ring_theory.specs.Demand3.{passes, runs, holders}
use Rattle.ring_theory.proofs.Sides.{Different, Leg, one, two, three, dec_leg, passes_yes, passes_no, one_way, lies_is}
use Rattle.ring_theory.proofs.Crossings.{Cross, reversed, Corner, first, second, third, from_corner, to_corner, same_triple}
use Rattle.ring_theory.proofs.Steps.{Side, next_one, Kind, along, none, flip, On, Net}
use Rattle.ring_theory.proofs.Indexes.{Increasing, In, on, round, side_at_lem}

module _ (a b c : ℕ) (inc : Increasing (a ∷ b ∷ c ∷ [])) where
  abbrev P : ℕ → Type 0
  P = In (a ∷ b ∷ c ∷ [])

  abbrev tris : List ℕ
  tris = a ∷ b ∷ c ∷ []

  a_b : Side P a b
  a_b = side_at_lem tris inc 0 1 (omega arith) (on refl (omega arith))

  b_c : Side P b c
  b_c = side_at_lem tris inc 1 2 (omega arith) (on refl (omega arith))

  c_a : Side P c a
  c_a = side_at_lem tris inc 2 0 (omega arith) (round refl refl)

  different : Different a b c
  different = record { ab = a_b.differ; bc = b_c.differ; ac = λ e. c_a.differ (sym e) }

  corner : {w : ℕ} → P w → Corner a b c w
  corner {w} r = go r.index r.inside r.there
    where
      go : (j : ℕ) → j < 3 → get_or tris j 0 ≡ w → Corner a b c w
      go zero h e = first (sym e)
      go (suc zero) h e = second (sym e)
      go (suc (suc zero)) h e = third (sym e)
      go (suc (suc (suc j))) h e = absurd (omega arith)

  leg_side : {u v : ℕ} → Leg a b c u v → Side P u v
  leg_side (one e f) = subst₂ (Side P) (sym e) (sym f) a_b
  leg_side (two e f) = subst₂ (Side P) (sym e) (sym f) b_c
  leg_side (three e f) = subst₂ (Side P) (sym e) (sym f) c_a

  side_leg : {u v : ℕ} → Side P u v → Leg a b c u v
  side_leg {u} {v} s = go (corner s.from)
    where
      go : Corner a b c u → Leg a b c u v
      go (first e) = one e (next_one s (subst (λ x. Side P x b) (sym e) a_b))
      go (second e) = two e (next_one s (subst (λ x. Side P x c) (sym e) b_c))
      go (third e) = three e (next_one s (subst (λ x. Side P x a) (sym e) c_a))

  runs_is : (u v : ℕ) → runs u v tris ≡ passes u v a b c + 0
  unfolding runs
  runs_is u v = refl

  leg_kind : {u v : ℕ} → Leg a b c u v → Kind P tris u v
  leg_kind t = along (leg_side t) (rw (runs_is, passes_yes different t)) (rw (runs_is, passes_no (one_way different t)))

  kinds : (u v : ℕ) → Kind P tris u v
  kinds u v = go (dec_leg a b c u v) (dec_leg a b c v u)
    where
      go : Dec (Leg a b c u v) → Dec (Leg a b c v u) → Kind P tris u v
      go (yes s) t = leg_kind s
      go (no s) (yes t) = flip (leg_kind t)
      go (no s) (no t) = none (λ x. s (side_leg x)) (λ x. t (side_leg x)) (rw (runs_is, passes_no s)) (rw (runs_is, passes_no t))

  holds : (u v : ℕ) → holders u v tris ≡ runs u v tris + runs v u tris
  unfolding runs holders
  holds u v = rw (lies_is u v different) (omega arith)

  whose : {u v : ℕ} → On tris u v → Leg a b c u v ⊎ Leg a b c v u
  whose {u} {v} h = go (dec_leg a b c u v) (dec_leg a b c v u)
    where
      go : Dec (Leg a b c u v) → Dec (Leg a b c v u) → Leg a b c u v ⊎ Leg a b c v u
      go (yes s) t = inl s
      go (no s) (yes t) = inr t
      go (no s) (no t) = absurd (omega (arith, runs_is u v, runs_is v u, passes_no s, passes_no t))

  clears : {u v w z : ℕ} → Leg a b c u v ⊎ Leg a b c v u → Leg a b c w z ⊎ Leg a b c z w → Cross u v w z → ⊥
  clears (inl s) (inl t) x = same_triple s (from_corner t) (to_corner t) x
  clears (inl s) (inr t) x = same_triple s (to_corner t) (from_corner t) x
  clears (inr s) (inl t) x = same_triple s (to_corner t) (from_corner t) (reversed x)
  clears (inr s) (inr t) x = same_triple s (from_corner t) (to_corner t) (reversed x)

  of_three : Net P tris
  of_three = record { kind = kinds; held = holds; clear = λ u v w z h k. clears (whose h) (whose k) }

pub last_net : (ids : List ℕ) → Increasing ids → length ids ≡ 3 → Net (In ids) ids
last_net [] inc e = absurd (omega arith)
last_net (a ∷ []) inc e = absurd (omega arith)
last_net (a ∷ b ∷ []) inc e = absurd (omega arith)
last_net (a ∷ b ∷ c ∷ []) inc e = of_three a b c inc
last_net (a ∷ b ∷ c ∷ d ∷ r) inc e = absurd (omega arith)
