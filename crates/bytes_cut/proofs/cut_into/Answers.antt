-- A cutting counts 510 triangles at most, and its list keeps its length.
use Rattle.std.proofs.Common.{arith}
use Rattle.bytes_cut.proofs.Slices.{counted}
use Rattle.bytes_cut.proofs.cut_into.Goals as goal

pub leave_cut-requires : goal.leave_cut-requires
leave_cut-requires c = (counted _ _ _ _ c.triangulate-cut.ensures, omega (arith, c.requires))
