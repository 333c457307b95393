-- A side is held alike whichever way it is read, so that `Inner` covers each side under both its names. Assumes nothing.
use Prim.Native.Nat.{ℕ, ◌+◌}
use mathlib.Core.Path.{◌≡◌, refl, ap, ap₂}
use mathlib.Core.Bool.{cond}
use mathlib.Core.List.{List, [], ◌∷◌}
use native.Mathlib.Nat.{add_comm}
use lib.Dec.{eqb}
use Rattle.ring_theory.specs.Demand3.{passes, lies, holders, Inner}

lies_flip : (u v a b c : ℕ) → lies u v a b c ≡ lies v u a b c
unfolding lies
lies_flip u v a b c = ap {A = ℕ} {B = ℕ} (λ s. cond (eqb s 0) 0 1) (add_comm (passes u v a b c) (passes v u a b c))

pub holders_flip : (u v : ℕ) (tris : List ℕ) → holders u v tris ≡ holders v u tris
unfolding holders
holders_flip u v [] = refl
holders_flip u v (a ∷ []) = refl
holders_flip u v (a ∷ b ∷ []) = refl
holders_flip u v (a ∷ b ∷ c ∷ rest) = ap₂ ◌+◌ (lies_flip u v a b c) (holders_flip u v rest)

pub inner_flip : {n u v : ℕ} {tris : List ℕ} → Inner n tris u v → Inner n tris v u
inner_flip {u = u} {v = v} {tris = tris} i = record { side = rw (holders_flip v u tris) i.side; not_ahead = i.not_back; not_back = i.not_ahead }
