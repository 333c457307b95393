-- SCOPE 18: the insides of a ring, the means of the first two triangles cut that have one, the last included; without two, none. Definitions only.
use Rattle.std.specs.Prelude.{ℕ, Bool, true, false, Option, None, Some, List, [], ◌∷◌, Float}
use Rattle.vec3.specs.declared.Vec3.{Vec3}
use Rattle.vec3.specs.Vec.{pos_at}
use Rattle.vec3.specs.Points.{triangle_mean}
use Rattle.ring_ears.specs.declared.Triangle.{Triangle}
use Rattle.ring_ears.specs.Ears.{Remaining}
use Rattle.ring_insides.specs.declared.Found.{Found}
use Rattle.ring_insides.specs.declared.Found.TheVariants as F
use Rattle.ring_cut.specs.Cut.{whole_ring, cutting_from}

-- the means found so far, with one more
abbrev pub with_mean : Found → Option Vec3 → Found
with_mean f None = f
with_mean F.Nothing (Some p) = F.One p
with_mean (F.One a) (Some p) = F.Both a p
with_mean (F.Both a b) (Some p) = F.Both a b

abbrev pub is_both : Found → Bool
is_both F.Nothing = false
is_both (F.One a) = false
is_both (F.Both a b) = true

-- the mean of a triangle
abbrev pub mean_of : Triangle → Option Vec3
mean_of t = triangle_mean t.previous t.this t.next

-- with those of a flat list of triples
unfoldable pub with_means : List Float → Found → List ℕ → Found
with_means ps f [] = f
with_means ps f (a ∷ []) = f
with_means ps f (a ∷ b ∷ []) = f
with_means ps f (a ∷ b ∷ c ∷ rest) = with_means ps (with_mean f (triangle_mean (pos_at ps a) (pos_at ps b) (pos_at ps c))) rest

abbrev pub insides_from : Found → Option (Vec3 × Vec3)
insides_from F.Nothing = None
insides_from (F.One a) = None
insides_from (F.Both a b) = Some (a, b)

-- with those of the cuts of what is left of a ring
abbrev pub means_from : List Float → Remaining → Found
means_from ps s = with_means ps F.Nothing (cutting_from ps s).triangles

abbrev pub insides_of : List Float → List ℕ → Option (Vec3 × Vec3)
insides_of ps classes = insides_from (means_from ps (whole_ring classes))
