-- The squared chord of a far is a double, so that its bits are below 2^64. Assumes nothing.
use Prim.Native.Nat.{ℕ, zero, suc, ◌<◌}
use mathlib.Core.List.{List}
use lib.Ieee.{Float, binary64, to_bits}
use lib.Ieee.Bits.{to_bits-lt}
use Rattle.vec3.specs.declared.Vec3.{Vec3}
use Rattle.vec3.specs.Vec.{cleared}
use Rattle.chord_length.specs.declared.ChordLength.{ChordLength}
use Rattle.loop_ask.specs.Questions.{query_fault}
use Rattle.loop_distances.specs.Distances as Far
use Rattle.loop_distances.specs.Distances.{far, judged, boundary_told}
use Rattle.loop_distances.proofs.Chords.{Within}
use Rattle.loop_distances.proofs.Least.{loop_within}
use Rattle.scene_store.specs.declared.Area.{Area}
use Rattle.scene_store.specs.Store.{corners, codes}
use Rattle.scene_far.specs.Far.{far_in}

abbrev pub Bits : Far.Told → Type 0
Bits (Far.refused k) = Unit {0}
Bits (Far.chord c) = to_bits binary64 c.0 < 18446744073709551616

by_fault : (fault : ℕ) (c : ChordLength) → Within c → Bits (judged fault c)
by_fault zero c h = to_bits-lt binary64 c.0 h.held.fit
by_fault (suc fault) c h = tt

pub far_bits : (a : Area) (ps ns : List Float) (cs : List ℕ) (p : Vec3) → Bits (far_in a ps ns cs p)
unfolding far_in boundary_told
far_bits a ps ns cs p =
    by_fault (query_fault a.header (corners a ps) (corners a ns) (codes a cs) (cleared p)) (far (corners a ps) (corners a ns) a.header.count (cleared p))
    (loop_within (corners a ps) (corners a ns) a.header.count (cleared p))
