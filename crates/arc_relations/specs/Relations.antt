-- SCOPE 9: how two arcs relate, by where they meet, and of collinear ones by what they share. Definitions only.
use Rattle.std.specs.Float.Ieee.{le}
use Rattle.std.specs.Prelude.{if◌then◌else◌}
use Rattle.vec3.specs.declared.Vec3.{Vec3}
use Rattle.vec3.specs.Vec.{same, dot}
use Rattle.minor_arc.specs.declared.MinorArc.{MinorArc}
use Rattle.minor_arc.specs.declared.Meeting.{Meeting}
use Rattle.minor_arc.specs.declared.Mode.{Mode}
use Rattle.minor_arc.specs.declared.Meeting.TheVariants as M
use Rattle.minor_arc.specs.Arcs.{location_of, within, meeting_of}
use Rattle.arc_relations.specs.declared.MinorArcRelation.{MinorArcRelation}
use Rattle.arc_relations.specs.declared.MinorArcRelation.TheVariants.{Disjoint, Intersecting, Touching, Overlapping}
use Rattle.arc_relations.specs.declared.Found.{Found}
use Rattle.arc_relations.specs.declared.Found.TheVariants.{None, One, Two}

-- at most two different points, the first two that come
unfoldable pub pushed : Found → Vec3 → Found
pushed None v = One v
pushed (One p) v = if same p v then One p else Two p v
pushed (Two p q) v = Two p q

unfoldable pub considered : Found → MinorArc → Vec3 → Found
considered f a v = if within (location_of a v) then pushed f v else f

-- from p to q or from q to p, in the direction of a: the larger product with its start comes first
unfoldable pub span_of : MinorArc → Vec3 → Vec3 → MinorArc
span_of a p q =
    if le (dot q a.start) (dot p a.start)
    then (record { start = p; end = q; normal = a.normal })
    else (record { start = q; end = p; normal = a.normal })

abbrev pub shared : MinorArc → Found → MinorArcRelation
shared a None = Disjoint
shared a (One p) = Touching p
shared a (Two p q) = Overlapping (span_of a p q)

-- of the four ends those that are on the other arc: b's start, b's end, a's start, a's end
unfoldable pub collinear_of : MinorArc → MinorArc → MinorArcRelation
collinear_of a b = shared a (considered (considered (considered (considered None a b.start) a b.end) b a.start) b a.end)

abbrev pub settled : MinorArcRelation → Meeting → MinorArcRelation
settled r M.Apart = Disjoint
settled r M.Collinear = r
settled r (M.Crossing p) = Intersecting p
settled r (M.Touching p) = Touching p

-- SCOPE 54: what collinear arcs share is the same in both modes
unfoldable pub relation_of : Mode → MinorArc → MinorArc → MinorArcRelation
relation_of mode a b = settled (collinear_of a b) (meeting_of mode a b)
