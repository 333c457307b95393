-- The ring is written slice by slice: corners, normals and classes; its insides are those of the corners and classes written.
use Rattle.std.proofs.Common.{arith}
use Rattle.loop_build.proofs.Writes.{codes_size, is_ring, all_written}
use Rattle.loop_build.proofs.write_ring.Goals as goal

pub copy_front-requires : goal.copy_front-requires
copy_front-requires c = omega (arith, codes_size c.requires, c.requires.classes_room)

pub insides_of-requires : goal.insides_of-requires
insides_of-requires c = is_ring c.requires _ c.write_corners.ensures

pub returns : goal.returns
returns c = all_written c.requires _ _ _ c.insides_of.ensures c.write_corners.ensures c.write_normals.ensures c.copy_front.ensures
