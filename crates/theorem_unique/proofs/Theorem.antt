-- The theorem: each public function has one answer and one final state of what it is lent. Assumes nothing.
use Prim.Native.Nat.{ℕ}
use mathlib.Core.Path.{◌≡◌, refl, sym, ap, ◌∙◌}
use mathlib.Core.List.{List}
use lib.Ieee.{Float}
use Rattle.arcs.proofs.Unique as Arcs
use Rattle.loop_build.proofs.Unique.{told_apart, build_unique}
use Rattle.loop_ask.proofs.Unique as Ask
use Rattle.loop_distances.proofs.Unique.{one_distance, distance_to_unique, distance_to_boundary_unique}
use Rattle.loop_triangles.proofs.Unique.{one_cut, triangulate_unique, accepts_unique}
use Rattle.loop_relate.proofs.Unique.{one_relation, relate_unique}
use Rattle.bytes_loop.specs.Outcome.{Outcome, outcome}
use Rattle.exports.proofs.Unique.{one_outcome}
use Rattle.scene_run.proofs.Unique.{run_unique}
use Rattle.bytes_build.specs.Build.{FloatsOutcome}
use Rattle.theorem_unique.specs.Unique.{Definitions, OfRoots, OfArcs, OfLoops, OfExports, OfProbes, OfScenes, Unique}

definitions : Definitions
definitions = record {
  arc_made = Arcs.one_made;
  arc_sided = Arcs.one_sided;
  arc_contained = Arcs.one_contained;
  arc_met = Arcs.one_met;
  arc_related = Arcs.one_related;
  built = told_apart;
  placed = Ask.one_placed;
  answered = Ask.one_answered;
  distance = one_distance;
  cut = one_cut;
  related = one_relation;
}

of_roots : OfRoots
of_roots = record {
  root = λ κs a x y v w p q. (p.same ∙ sym q.same, refl);
  root_bits = λ κs a x y v w p q. (p.same ∙ sym q.same, refl);
}

of_arcs : OfArcs
of_arcs = record {
  new = Arcs.new_unique;
  opposite = Arcs.opposite_unique;
  side_of = Arcs.side_of_unique;
  contains_position = Arcs.contains_position_unique;
  intersection = Arcs.intersection_unique;
  relate = Arcs.relate_unique;
}

of_loops : OfLoops
of_loops = record {
  build = build_unique;
  contains_position = Ask.contains_position_unique;
  has_vertex = Ask.has_vertex_unique;
  any_edge_contains_position = Ask.any_edge_contains_position_unique;
  is_convex = Ask.is_convex_unique;
  is_simple = Ask.is_simple_unique;
  is_equivalent = Ask.is_equivalent_unique;
  distance_to = distance_to_unique;
  distance_to_boundary = distance_to_boundary_unique;
  triangulate = triangulate_unique;
  accepts = accepts_unique;
  relate = relate_unique;
}

-- a number with the one lent buffer at exit, by where that stands among the parameters
at_1 : {A : Type 0} {t : Outcome A} (x y : ℕ) (v w : List A × Unit {0}) → outcome x v.0 ≡ t → outcome y w.0 ≡ t → (x ≡ y) × (v ≡ w)
at_1 x y v w p q = let e = one_outcome x y v.0 w.0 p q in (e.0, ap (λ l. (l, tt)) e.1)

at_2 : {A : Type 0} {t : Outcome A} (x y : ℕ) (v w : Unit {0} × (List A × Unit {0})) → outcome x v.1.0 ≡ t → outcome y w.1.0 ≡ t → (x ≡ y) × (v ≡ w)
at_2 x y v w p q = let e = at_1 x y v.1 w.1 p q in (e.0, ap (λ u. (tt, u)) e.1)

at_3 : {A : Type 0} {t : Outcome A} (x y : ℕ) (v w : Unit {0} × (Unit {0} × (List A × Unit {0}))) → outcome x v.1.1.0 ≡ t → outcome y w.1.1.0 ≡ t → (x ≡ y) × (v ≡ w)
at_3 x y v w p q = let e = at_2 x y v.1 w.1 p q in (e.0, ap (λ u. (tt, u)) e.1)

at_4 : {A : Type 0} {t : Outcome A} (x y : ℕ) (v w : Unit {0} × (Unit {0} × (Unit {0} × (List A × Unit {0})))) → outcome x v.1.1.1.0 ≡ t → outcome y w.1.1.1.0 ≡ t
    → (x ≡ y) × (v ≡ w)
at_4 x y v w p q = let e = at_3 x y v.1 w.1 p q in (e.0, ap (λ u. (tt, u)) e.1)

at_8 : {A : Type 0} {t : Outcome A} (x y : ℕ) (v w : Unit {0} × (Unit {0} × (Unit {0} × (Unit {0} × (Unit {0} × (Unit {0} × (Unit {0} × (List A × Unit {0}))))))))
    → outcome x v.1.1.1.1.1.1.1.0 ≡ t → outcome y w.1.1.1.1.1.1.1.0 ≡ t → (x ≡ y) × (v ≡ w)
at_8 x y v w p q = let e = at_4 x y v.1.1.1.1 w.1.1.1.1 p q in (e.0, ap (λ u. (tt, (tt, (tt, (tt, u))))) e.1)

-- a number with the header and the three slices of a loop at exit, the list ahead of them
four_slices : {t : FloatsOutcome} (x y : ℕ) (v w : Unit {0} × (List ℕ × (List Float × (List Float × (List ℕ × Unit {0})))))
    → record { number = x; header = v.1.0; positions = v.1.1.0; normals = v.1.1.1.0; classes = v.1.1.1.1.0 } ≡ t
    → record { number = y; header = w.1.0; positions = w.1.1.0; normals = w.1.1.1.0; classes = w.1.1.1.1.0 } ≡ t → (x ≡ y) × (v ≡ w)
four_slices x y v w p q =
    let e = p ∙ sym q in
    (ap (λ (o : FloatsOutcome). o.number) e, ap (λ (o : FloatsOutcome). (tt, (o.header, (o.positions, (o.normals, (o.classes, tt)))))) e)

of_exports : OfExports
of_exports = record {
  desk_root = λ κs a x y v w p q. (p.same ∙ sym q.same, refl);
  desk_atan2 = λ κs a x y v w p q. (p ∙ sym q, refl);
  desk_build = λ κs a. at_2;
  desk_build_long = λ κs a. at_2;
  desk_place = λ κs a x y v w p q. (p ∙ sym q, refl);
  desk_vertex = λ κs a x y v w p q. (p ∙ sym q, refl);
  desk_on_edge = λ κs a x y v w p q. (p ∙ sym q, refl);
  desk_convex = λ κs a x y v w p q. (p ∙ sym q, refl);
  desk_simple = λ κs a x y v w p q. (p ∙ sym q, refl);
  desk_place_f64 = λ κs a x y v w p q. (p ∙ sym q, refl);
  desk_triangles = λ κs a. at_2;
  desk_triangles_f64 = λ κs a. at_4;
  desk_full_positions = λ κs a. at_1;
  desk_accepts = λ κs a x y v w p q. (p ∙ sym q, refl);
  desk_pair = λ κs a x y v w p q. (p ∙ sym q, refl);
  desk_equivalent = λ κs a x y v w p q. (p ∙ sym q, refl);
  desk_pair_f64 = λ κs a x y v w p q. (p ∙ sym q, refl);
  desk_build_f64 = λ κs a. four_slices;
  desk_build_long_f64 = λ κs a. four_slices;
  desk_arc = λ κs a. at_3;
  desk_arc_opposite = λ κs a. at_2;
  desk_arc_side = λ κs a x y v w p q. (p ∙ sym q, refl);
  desk_arc_contains = λ κs a x y v w p q. (p ∙ sym q, refl);
  desk_arc_intersection = λ κs a. at_3;
  desk_arc_relate = λ κs a. at_3;
  desk_arc_intersection_long = λ κs a. at_3;
  desk_arc_relate_long = λ κs a. at_3;
  desk_scene = λ κs a. at_2;
  desk_radians = λ κs a x y v w p q. (p ∙ sym q, refl);
  desk_far = λ κs a. at_3;
  desk_arc_far = λ κs a. at_3;
  desk_far_f64 = λ κs a. at_8;
}

of_probes : OfProbes
of_probes = record {
  leaf_vec = λ κs a. at_3;
  leaf_number = λ κs a x y v w p q. (p ∙ sym q, refl);
  leaf_case = λ κs a x y v w p q. (p ∙ sym q, refl);
  leaf_cap = λ κs a. at_2;
}

of_scenes : OfScenes
of_scenes = record { run = run_unique }

pub unique : Unique
unique = record {
  definitions = definitions;
  of_roots = of_roots;
  of_arcs = of_arcs;
  of_loops = of_loops;
  of_exports = of_exports;
  of_probes = of_probes;
  of_scenes = of_scenes;
}
