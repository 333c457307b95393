-- Three corners: the source's nest of tests is the short form, for all floats. Assumes nothing.
use Prim.Native.Nat.{ℕ, ◌*◌}
use mathlib.Core.Path.{◌≡◌, refl, sym, ap₂, ◌∙◌}
use mathlib.Core.Bool.{Bool, true, false, not, ◌&&◌, ◌||◌, beq}
use mathlib.Core.List.{List}
use borrow.Author.Tests.{eqb-true, eqb-false, ne_eqb}
use lib.Dec.{T, eqb}
use lib.Ieee.{Float, nan, inf, fin, binary64, up, down, eq, level, lt, fits}
use lib.Ieee.Fits.{neg-fits, add-fits}
use Rattle.std.specs.Prelude.{if◌then◌else◌}
use Rattle.numbers.specs.F64 as F
use Rattle.numbers.specs.Near.{near}
use Rattle.laws.specs.Loop.{any_of}
use Rattle.vec3.specs.declared.Vec3.{Vec3}
use Rattle.vec3.specs.Vec.{same, dot, pos_at}
use Rattle.ring_edges.specs.Edges.{has_vertex}
use Rattle.ring_place.specs.Places.{depth, within, in_triangle, sides, nest}
use Rattle.ring_place.proofs.Above.{beyond}

-- ---- the nest of three sides, by whether each is near zero (a, b, c) and above zero (p, q, r)

off : (a b c : Bool) → (if a then false else if b then false else if c then false else false) ≡ false
off true b c = refl
off false true c = refl
off false false true = refl
off false false false = refl

last_off : (b : Bool) → b && false ≡ false
last_off true = refl
last_off false = refl

nested : (a p b q c r : Bool) → (if a && q && r then false else if b && p && r then false else if c && p && q then false else p && q && r) ≡ (p && not a) && (q && not b) && (r && not c)
nested a false b q c r = off (a && q && r) (b && false && r) (c && false && q)
nested a true b false c r = off (a && false && r) (b && true && r) (c && true && false) ∙ rw (last_off (not a))
nested a true b true c false = off (a && true && false) (b && true && false) (c && true && true) ∙ sym (last_off (not a && not b))
nested true true b true c true = refl
nested false true true true c true = refl
nested false true false true true true = refl
nested false true false true false true = refl

sides_is : (s t u : Float) → T (fits binary64 s) → T (fits binary64 t) → T (fits binary64 u) → sides s t u ≡ lt F.epsilon s && lt F.epsilon t && lt F.epsilon u
unfolding sides
sides_is s t u x y z =
    nested (near s F.zero) (lt F.zero s) (near t F.zero) (lt F.zero t) (near u F.zero) (lt F.zero u)
    ∙ ap₂ ◌&&◌ (ap₂ ◌&&◌ (beyond s x) (beyond t y)) (beyond u z)

-- ---- a position equals a corner as the corner equals it

beq_flip : (s t : Bool) → beq s t ≡ beq t s
beq_flip true true = refl
beq_flip true false = refl
beq_flip false true = refl
beq_flip false false = refl

level_flip : (s t : Bool) (a b : ℕ) → level s a t b ≡ level t b s a
level_flip s t a b = go (eqb a b) refl
  where
    go : (x : Bool) → eqb a b ≡ x → level s a t b ≡ level t b s a
    go true e = rw (eqb-true a b e, beq_flip s t)
    go false e = rw (e, ne_eqb b a (λ (q : b ≡ a). eqb-false a b e (sym q)))

eq_flip : (x y : Float) → eq x y ≡ eq y x
unfolding eq
eq_flip nan nan = refl
eq_flip nan (inf t) = refl
eq_flip nan (fin t n d) = refl
eq_flip (inf s) nan = refl
eq_flip (inf s) (inf t) = beq_flip s t
eq_flip (inf s) (fin t n d) = refl
eq_flip (fin s m e) nan = refl
eq_flip (fin s m e) (inf t) = refl
eq_flip (fin s m e) (fin t n d) = level_flip s t (m * up e * down d) (n * up d * down e)

same_flip : (u v : Vec3) → same u v ≡ same v u
same_flip u v = ap₂ ◌&&◌ (ap₂ ◌&&◌ (eq_flip u.x v.x) (eq_flip u.y v.y)) (eq_flip u.z v.z)

-- ---- the theorem

corners : (a b c x y z : Bool) → (if a || b || c then false else x && y && z) ≡ not (a || (b || (c || false))) && x && y && z
corners true b c x y z = refl
corners false true c x y z = refl
corners false false true x y z = refl
corners false false false x y z = refl

pub nest_is : (ps ns : List Float) (p : Vec3) → nest ps ns p ≡ in_triangle ps ns p
unfolding nest in_triangle has_vertex any_of
nest_is ps ns p =
    let held : (i : ℕ) → T (fits binary64 (depth ns i p)) = λ i. neg-fits binary64 (dot p (pos_at ns i)) (add-fits binary64 _ _) in
    rw (sides_is (depth ns 0 p) (depth ns 1 p) (depth ns 2 p) (held 0) (held 1) (held 2), same_flip p (pos_at ps 0), same_flip p (pos_at ps 1), same_flip p (pos_at ps 2))
    (corners (same (pos_at ps 0) p) (same (pos_at ps 1) p) (same (pos_at ps 2) p) (within ns 0 p) (within ns 1 p) (within ns 2 p))
