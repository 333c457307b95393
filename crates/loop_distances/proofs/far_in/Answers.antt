-- Products and unit vectors, twice, and then the least with these.
use Rattle.std.proofs.Common.{◌∙◌}
use Rattle.loop_distances.proofs.Listed.{each_by}
use Rattle.loop_distances.proofs.far_in.Goals as goal

pub returns : goal.returns
returns c =
    let a = c.args in
    let b = a.border.now in
    c.far_each.ensures
    ∙ each_by b.positions.now b.normals.now b.n a.p a.listed.now c.write_across.ensures c.write_units.ensures c.write_feet.ensures c.write_units-2.ensures a.known
