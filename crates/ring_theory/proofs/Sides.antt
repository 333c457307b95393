-- How often one triple of different numbers runs a side, and whether it holds it. Assumes nothing.
use Prim.Native.Nat.{ℕ, ◌+◌}
use mathlib.Core.Path.{◌≡◌, refl, sym, ◌∙◌}
use mathlib.Core.Logic.{◌≢◌}
use mathlib.Core.Bool.{Bool, true, false, ◌&&◌, cond}
use native.Mathlib.Decide.{ℕ_discrete}
use lib.Dec.{T, eqb, eqb→eq, eqb_refl}
use Rattle.ring_theory.specs.Demand3.{same, passes, lies}

pub record Different (a b c : ℕ) : Type 0 where
  pub ab : a ≢ b
  pub bc : b ≢ c
  pub ac : a ≢ c

-- u to v is a side of the triple (a, b, c)
pub data Leg (a b c u v : ℕ) : Type 0 where
  one : u ≡ a → v ≡ b → Leg a b c u v
  two : u ≡ b → v ≡ c → Leg a b c u v
  three : u ≡ c → v ≡ a → Leg a b c u v

pub dec_leg : (a b c u v : ℕ) → Dec (Leg a b c u v)
dec_leg a b c u v = go (ℕ_discrete u a) (ℕ_discrete v b) (ℕ_discrete u b) (ℕ_discrete v c) (ℕ_discrete u c) (ℕ_discrete v a)
  where
    third : ¬ ((u ≡ a) × (v ≡ b)) → ¬ ((u ≡ b) × (v ≡ c)) → Dec (u ≡ c) → Dec (v ≡ a) → Dec (Leg a b c u v)
    third p q (yes e) (yes f) = yes (three e f)
    third p q (yes e) (no f) = no (λ t. elim t [ one x y ↦ p (x, y) | two x y ↦ q (x, y) | three x y ↦ f y ])
    third p q (no e) d = no (λ t. elim t [ one x y ↦ p (x, y) | two x y ↦ q (x, y) | three x y ↦ e x ])

    second : ¬ ((u ≡ a) × (v ≡ b)) → Dec (u ≡ b) → Dec (v ≡ c) → Dec (u ≡ c) → Dec (v ≡ a) → Dec (Leg a b c u v)
    second p (yes e) (yes f) g h = yes (two e f)
    second p (yes e) (no f) g h = third p (λ r. f r.1) g h
    second p (no e) d g h = third p (λ r. e r.0) g h

    go : Dec (u ≡ a) → Dec (v ≡ b) → Dec (u ≡ b) → Dec (v ≡ c) → Dec (u ≡ c) → Dec (v ≡ a) → Dec (Leg a b c u v)
    go (yes e) (yes f) i j g h = yes (one e f)
    go (yes e) (no f) i j g h = second (λ r. f r.1) i j g h
    go (no e) d i j g h = second (λ r. e r.0) i j g h

same_yes : {u v a b : ℕ} → u ≡ a → v ≡ b → same u v a b ≡ 1
unfolding same
same_yes {u} {v} {a} {b} e f = rw (e, f) (go (eqb a a) (eqb b b) (eqb_refl a) (eqb_refl b))
  where
    go : (x y : Bool) → T x → T y → ◌≡◌ {A = ℕ} (cond (x && y) 1 0) 1
    go true true s t = refl
    go true false s t = absurd t
    go false y s t = absurd s

same_no : {u v a b : ℕ} → (u ≡ a → v ≡ b → ⊥) → same u v a b ≡ 0
unfolding same
same_no {u} {v} {a} {b} h = go (eqb u a) (eqb v b) (eqb→eq u a) (eqb→eq v b)
  where
    go : (x y : Bool) → (T x → u ≡ a) → (T y → v ≡ b) → ◌≡◌ {A = ℕ} (cond (x && y) 1 0) 0
    go true true s t = absurd (h (s tt) (t tt))
    go true false s t = refl
    go false y s t = refl

pub passes_no : {a b c u v : ℕ} → ¬ Leg a b c u v → passes u v a b c ≡ 0
unfolding passes
passes_no h = rw (same_no (λ e f. h (one e f)), same_no (λ e f. h (two e f)), same_no (λ e f. h (three e f)))

module _ {a b c u v : ℕ} (d : Different a b c) where
  pub passes_yes : Leg a b c u v → passes u v a b c ≡ 1
  unfolding passes
  passes_yes (one e f) = rw (same_yes e f, same_no {u = u} {v = v} {a = b} {b = c} (λ x y. d.ab (sym e ∙ x)), same_no {u = u} {v = v} {a = c} {b = a} (λ x y. d.ac (sym e ∙ x)))
  passes_yes (two e f) = rw (same_yes e f, same_no {u = u} {v = v} {a = a} {b = b} (λ x y. d.ab (sym x ∙ e)), same_no {u = u} {v = v} {a = c} {b = a} (λ x y. d.bc (sym e ∙ x)))
  passes_yes (three e f) = rw (same_yes e f, same_no {u = u} {v = v} {a = a} {b = b} (λ x y. d.ac (sym x ∙ e)), same_no {u = u} {v = v} {a = b} {b = c} (λ x y. d.bc (sym x ∙ e)))

  -- no triple runs a side both ways
  pub one_way : Leg a b c u v → ¬ Leg a b c v u
  one_way (one e f) (one x y) = d.ab (sym e ∙ y)
  one_way (one e f) (two x y) = d.ac (sym e ∙ y)
  one_way (one e f) (three x y) = d.bc (sym f ∙ x)
  one_way (two e f) (one x y) = d.ac (sym x ∙ f)
  one_way (two e f) (two x y) = d.bc (sym e ∙ y)
  one_way (two e f) (three x y) = d.ab (sym y ∙ e)
  one_way (three e f) (one x y) = d.bc (sym y ∙ e)
  one_way (three e f) (two x y) = d.ab (sym f ∙ x)
  one_way (three e f) (three x y) = d.ac (sym f ∙ x)

-- a triple holds a side as often as it runs it, one way and the other
pub lies_is : {a b c : ℕ} (u v : ℕ) → Different a b c → lies u v a b c ≡ passes u v a b c + passes v u a b c
unfolding lies
lies_is {a} {b} {c} u v d = go (dec_leg a b c u v) (dec_leg a b c v u)
  where
    go : Dec (Leg a b c u v) → Dec (Leg a b c v u) → ◌≡◌ {A = ℕ} (cond (eqb (passes u v a b c + passes v u a b c) 0) 0 1) (passes u v a b c + passes v u a b c)
    go (yes s) (yes t) = absurd (one_way d s t)
    go (yes s) (no t) = rw (passes_yes d s, passes_no t)
    go (no s) (yes t) = rw (passes_yes d t, passes_no s)
    go (no s) (no t) = rw (passes_no s, passes_no t)
