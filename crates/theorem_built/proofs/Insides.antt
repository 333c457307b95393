-- The insides of a ring whose positions are not refused are finite: means of its corners, none of which has a component above 2. Assumes nothing.
use Prim.Native.Nat.{ℕ, ◌<◌}
use mathlib.Core.Path.{◌≡◌, refl}
use mathlib.Core.Bool.{Bool, true, false, ◌||◌, cond}
use mathlib.Core.List.{List}
use lib.ListN.{length}
use lib.Dec.{ltb}
use lib.Ieee.{Float}
use Rattle.std.specs.Prelude.{Option, None, Some, if◌then◌else◌}
use Rattle.laws.proofs.Firsts.{first_fine}
use Rattle.vec3.specs.declared.Vec3.{Vec3}
use Rattle.vec3.specs.Vec.{antipodes, mean3, pos_at}
use Rattle.vec3.specs.Points.{triangle_mean}
use Rattle.sizes.proofs.Unit.{Sized}
use Rattle.sizes.proofs.Vectors.{mean_sized}
use Rattle.ring_cut.specs.Cut.{Ring}
use Rattle.ring_insides.specs.Insides.{insides_of}
use Rattle.ring_insides.proofs.Means.{AtPoint, InInsides, insides_means}
use Rattle.loop_header.specs.Loops.{insides_fault}
use Rattle.loop_build.specs.Build.{insides_for}
use Rattle.theorem_built.proofs.Normals.{sized_fine}

abbrev AtMostTwo : Vec3 → Type 0
AtMostTwo v = Sized v 2

if_sized : (c : Bool) (p q : Option Vec3) → AtPoint AtMostTwo p → AtPoint AtMostTwo q → AtPoint AtMostTwo (if c then p else q)
if_sized true p q h k = h
if_sized false p q h k = k

triangle_sized : (a b c : Vec3) → Sized a 2 → Sized b 2 → Sized c 2 → AtPoint AtMostTwo (triangle_mean a b c)
unfolding triangle_mean
triangle_sized a b c h k j = if_sized ((antipodes a b || antipodes a c) || antipodes b c) None (Some (mean3 a b c)) tt (mean_sized a b c h k j)

two_fine : (i : Option (Vec3 × Vec3)) → InInsides AtMostTwo i → insides_fault i ≡ 0
two_fine None h = refl
two_fine (Some (a, b)) h = first_fine _ _ (sized_fine a 2 h.0) (sized_fine b 2 h.1)

-- three corners need none
cond_fine : (c : Bool) (i : Option (Vec3 × Vec3)) → insides_fault i ≡ 0 → insides_fault (cond c i None) ≡ 0
cond_fine true i h = h
cond_fine false i h = refl

pub insides_fine : (ps : List Float) (cs : List ℕ) → Ring ps cs → ((j : ℕ) → j < length cs → Sized (pos_at ps j) 2) → insides_fault (insides_for ps cs) ≡ 0
unfolding insides_for
insides_fine ps cs r s =
    let all = insides_means AtMostTwo ps cs r (λ x y z h k j. triangle_sized (pos_at ps x) (pos_at ps y) (pos_at ps z) (s x h) (s y k) (s z j)) in
    cond_fine (ltb 3 (length cs)) (insides_of ps cs) (two_fine (insides_of ps cs) all)
