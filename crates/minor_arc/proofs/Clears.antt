-- An arc is the opposite of its opposite, where its normal is free of -0.0. Assumes nothing.
use mathlib.Core.Path.{◌≡◌, refl}
use Rattle.signs.specs.Signs.{UnsignedVec}
use Rattle.signs.proofs.Stores.{opposite_back}
use Rattle.minor_arc.specs.declared.MinorArc.{MinorArc}
use Rattle.minor_arc.specs.Arcs.{reversed}

pub opposite_twice : (a : MinorArc) → UnsignedVec a.normal → reversed (reversed a) ≡ a
opposite_twice a p = rw (opposite_back a.normal p) refl
