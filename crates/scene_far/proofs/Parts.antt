-- An area's part of the store, as it is lent, is its own. Assumes nothing.
use Prim.Native.Nat.{ℕ}
use mathlib.Core.Path.{◌≡◌}
use mathlib.Core.List.{List}
use lib.Ieee.{Float}
use Rattle.vec3.specs.declared.Vec3.{Vec3}
use Rattle.loop_distances.specs.Distances.{Told, boundary_answer}
use Rattle.scene_store.specs.declared.Area.{Area}
use Rattle.scene_store.proofs.Stores.{three, one, threes, ones}
use Rattle.scene_far.specs.Far.{far_in}

pub distant : (ps ns : List Float) (cs : List ℕ) {t : Told} (a : Area) (p : Vec3) → t ≡ boundary_answer a.header (threes a ps) (threes a ns) (ones a cs) p → t ≡ far_in a ps ns cs p
unfolding far_in
distant ps ns cs a p e = rw (three a.start a.header.count, one a.start a.header.count) at e
