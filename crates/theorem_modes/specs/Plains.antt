-- SCOPE 54, 55: in plain mode each definition that goes by the mode is what it was without one, the source's rule: a line for each. Of building the mode is stored
-- and nothing else. Proved in proofs/Plains.antt. Definitions only.
use Rattle.std.specs.Prelude.{ℕ, ◌+◌, ◌-◌, ◌<◌, ◌≡◌, not, ◌&&◌, ◌||◌, List, None, Some, is_some, leb, Float, if◌then◌else◌}
use Rattle.laws.specs.Loop.{any_of, iterate}
use Rattle.vec3.specs.declared.Vec3.{Vec3}
use Rattle.vec3.specs.Vec.{origin, same, cleared, dot, cross, stable_unit}
use Rattle.base.specs.Sides.{settles_right, settles_left}
use Rattle.cap.specs.declared.Cap.{Cap}
use Rattle.cap.specs.Caps.{contains, intersects}
use Rattle.minor_arc.specs.declared.MinorArc.{MinorArc}
use Rattle.minor_arc.specs.declared.Meeting.TheVariants.{Collinear}
use Rattle.minor_arc.specs.declared.Mode.{Mode}
use Rattle.minor_arc.specs.declared.Mode.TheVariants.{Plain}
use Rattle.minor_arc.specs.Arcs.{arc_of, nearer, missed, meeting_in, meeting_of, meeting_point}
use Rattle.arc_relations.specs.Relations.{collinear_of, settled, relation_of}
use Rattle.arcs.specs.Answers as Arcs
use Rattle.arcs.specs.Answers.{point_told, relation_told, intersection_told, relate_told}
use Rattle.ring_place.specs.declared.Crossings.{Crossings}
use Rattle.ring_place.specs.Places.{passed, pass, start, crossed_evenly, from, inside_by}
use Rattle.ring_shape.specs.Shapes.{any_without_circle, edges_meet, end_of, meets_later, any_meets_later, simple}
use Rattle.ring_edges.specs.Edges.{edge_at}
use Rattle.ring_pair.specs.Contacts.{is_crossing, is_touch, is_crossed, is_touched, graded, crosses, touches, any_crosses, any_touches, arc_contact, part_contact, edge_crosses, edge_touches, contact_of}
use Rattle.loop_header.specs.declared.Header.{Header}
use Rattle.loop_header.specs.Loops.{loop_fault}
use Rattle.loop_build.specs.Build as Build
use Rattle.loop_ask.specs.Answers.{bool_told, judged}
use Rattle.loop_ask.specs.Places.{cleared_cap, inside_code, inside_with, place_without, place_of}
use Rattle.loop_ask.specs.Questions.{simple_answer, full_state, pair_fault, equivalent_loops}
use Rattle.loop_relate.specs.Relations.{empty_state, edges_if, by_containment, lies_in, by_edges, disjoint_if, equal_if, by_caps, by_states, relate_answer, searched}
use Rattle.bytes_loop.specs.Layout.{marks_at, header_at, mark_if, marks_of}

-- ---- arcs: crates minor_arc, arc_relations and arcs
pub record OfArcs : Type 0 where
  pub plain_missed : (a : MinorArc) (i : Vec3)
      → missed Plain a i ≡ (let p = nearer a.start i in settles_right (dot p (cross a.normal a.start)) || settles_left (dot p (cross a.normal a.end)))
  pub plain_meeting : (a b : MinorArc)
      → meeting_of Plain a b ≡ (let i = stable_unit a.normal b.normal in if same i origin then Collinear else meeting_in a b (nearer a.start i))
  pub plain_relation : (a b : MinorArc) → relation_of Plain a b ≡ settled (collinear_of a b) (meeting_of Plain a b)
  pub plain_intersection : (a b : MinorArc) → intersection_told Plain a b ≡ Arcs.judged (Arcs.pair_fault a b) (point_told (meeting_point (meeting_of Plain a b)))
  pub plain_relate : (a b : MinorArc) → relate_told Plain a b ≡ Arcs.judged (Arcs.pair_fault a b) (relation_told (relation_of Plain a b))

-- ---- one ring: crates ring_place and ring_shape
pub record OfRings : Type 0 where
  pub plain_pass : (arc : MinorArc) (ps ns : List Float) (n i : ℕ) (s : Crossings) → pass Plain arc ps ns n i s ≡ passed n i (meeting_point (meeting_of Plain arc (edge_at ps ns n i))) s
  pub plain_crossings : (arc : MinorArc) (ps ns : List Float) (n : ℕ) → crossed_evenly Plain arc ps ns n ≡ (iterate (pass Plain arc ps ns n) n 0 start).even
  pub plain_inside : (cap : Cap) (a b : Vec3) (ps ns : List Float) (n : ℕ) (p : Vec3)
      → inside_by Plain cap a b ps ns n p ≡ (contains cap p && (same p a || same p b || crossed_evenly Plain (arc_of (from a b p) p) ps ns n))
  pub plain_edges_meet : (ps ns : List Float) (n i j : ℕ) → edges_meet Plain ps ns n i j ≡ is_some (meeting_point (meeting_of Plain (edge_at ps ns n i) (edge_at ps ns n j)))
  pub plain_meets_later : (ps ns : List Float) (n i : ℕ) → meets_later Plain ps ns n i ≡ any_of (edges_meet Plain ps ns n i) (end_of n i - (i + 2)) (i + 2)
  pub plain_any_meets_later : (ps ns : List Float) (n : ℕ) → any_meets_later Plain ps ns n ≡ any_of (meets_later Plain ps ns n) (n - 1) 0
  pub plain_simple : (ps ns : List Float) (n : ℕ) → simple Plain ps ns n ≡ (not (any_without_circle ps n) && (leb n 3 || not (any_meets_later Plain ps ns n)))

-- ---- two rings: crate ring_pair
pub record OfPairs : Type 0 where
  pub plain_crosses : (a : MinorArc) (os om : List Float) (m j : ℕ) → crosses Plain a os om m j ≡ is_crossing (relation_of Plain a (edge_at os om m j))
  pub plain_touches : (a : MinorArc) (os om : List Float) (m j : ℕ) → touches Plain a os om m j ≡ is_touch (relation_of Plain a (edge_at os om m j))
  pub plain_any_crosses : (a : MinorArc) (os om : List Float) (m : ℕ) → any_crosses Plain a os om m ≡ any_of (crosses Plain a os om m) m 0
  pub plain_any_touches : (a : MinorArc) (os om : List Float) (m : ℕ) → any_touches Plain a os om m ≡ any_of (touches Plain a os om m) m 0
  pub plain_arc_contact : (a : MinorArc) (os om : List Float) (m : ℕ) → arc_contact Plain a os om m ≡ graded (any_crosses Plain a os om m) (any_touches Plain a os om m)
  pub plain_part_contact : (a : MinorArc) (os om : List Float) (m i j : ℕ)
      → part_contact Plain a os om m i j ≡ graded (any_of (crosses Plain a os om m) (j - i) i) (any_of (touches Plain a os om m) (j - i) i)
  pub plain_edge_crosses : (ps ns : List Float) (n : ℕ) (os om : List Float) (m i : ℕ) → edge_crosses Plain ps ns n os om m i ≡ any_crosses Plain (edge_at ps ns n i) os om m
  pub plain_edge_touches : (ps ns : List Float) (n : ℕ) (os om : List Float) (m i : ℕ) → edge_touches Plain ps ns n os om m i ≡ any_touches Plain (edge_at ps ns n i) os om m
  pub plain_contact : (ps ns : List Float) (n : ℕ) (os om : List Float) (m : ℕ)
      → contact_of Plain ps ns n os om m ≡ graded (any_of (edge_crosses Plain ps ns n os om m) n 0) (any_of (edge_touches Plain ps ns n os om m) n 0)

-- ---- loops whose header says plain: crates loop_ask and loop_relate
pub record OfLoops (h : Header) (ps ns : List Float) (cs : List ℕ) : Type 0 where
  pub plain_inside_with : (a b p : Vec3) → inside_with h a b ps ns p ≡ inside_by Plain (cleared_cap h.cap) (cleared a) (cleared b) ps ns h.count p
  pub plain_place : (a b p : Vec3) → h.insides ≡ Some (a, b)
      → place_of h ps ns p ≡ inside_code (inside_by Plain (cleared_cap h.cap) (cleared a) (cleared b) ps ns h.count p)
  pub plain_place_without : (p : Vec3) → h.insides ≡ None → place_of h ps ns p ≡ place_without h ps ns p
  pub plain_simple : simple_answer h ps ns cs ≡ judged (loop_fault h ps ns cs) (bool_told (simple Plain ps ns h.count))
  pub plain_by_edges : (o : Header) (qs ms : List Float)
      → by_edges h ps ns o qs ms
      ≡ (let k = contact_of Plain ps ns h.count qs ms o.count in edges_if (is_crossed k) (by_containment (is_touched k) (lies_in h ps o qs ms) (lies_in o qs h ps ns)))
  pub plain_by_caps : (o : Header) (qs ms : List Float) (ds : List ℕ)
      → by_caps h ps ns cs o qs ms ds
      ≡ disjoint_if (not (intersects (cleared_cap h.cap) (cleared_cap o.cap))) (equal_if (equivalent_loops h ps cs o qs ds) (by_edges h ps ns o qs ms))
  pub plain_searched : (o : Header) (qs ms : List Float) (ds : List ℕ)
      → searched h ps ns cs o qs ms ds
      ≡ (not (full_state h.state) && not (empty_state h.state && empty_state o.state) && intersects (cleared_cap h.cap) (cleared_cap o.cap)
      && not (equivalent_loops h ps cs o qs ds) && not (is_crossed (contact_of Plain ps ns h.count qs ms o.count)))
  -- of two of them no refusal is new
  pub plain_relate : (o : Header) (qs ms : List Float) (ds : List ℕ) → o.mode ≡ Plain
      → relate_answer h ps ns cs o qs ms ds ≡ judged (pair_fault h ps ns cs o qs ms ds) (by_states h ps ns cs o qs ms ds)

-- ---- building: crate loop_build
-- a header, and an outcome, with another mode
abbrev pub header_in : Mode → Header → Header
header_in mode h = record { count = h.count; state = h.state; cap = h.cap; insides = h.insides; reversed = h.reversed; weak = h.weak; mode = mode }

abbrev pub told_in : Mode → Build.Told → Build.Told
told_in mode (Build.refused k) = Build.refused k
told_in mode (Build.loop h) = Build.loop (header_in mode h)

abbrev pub outcome_in : Mode → Build.Outcome → Build.Outcome
outcome_in mode o = record { answer = told_in mode o.answer; positions = o.positions; normals = o.normals; classes = o.classes }

pub record OfBuilding : Type 0 where
  -- in any mode what plain mode builds, but for the header's mode
  pub mode_stored_alone : (mode : Mode) (l ps ns : List Float) (cs : List ℕ) → Build.build_outcome mode l ps ns cs ≡ outcome_in mode (Build.build_outcome Plain l ps ns cs)

-- ---- bytes: crate bytes_loop
pub record OfBytes : Type 0 where
  -- a plain header has the three marks that there were
  pub plain_marks : (h : Header) → h.mode ≡ Plain → marks_of h ≡ mark_if h.reversed 1 + mark_if h.weak 2 + mark_if (is_some h.insides) 4
  -- and marks of these alone are read as a plain header's
  pub plain_read : (s : List ℕ) → marks_at s < 8 → (header_at s).mode ≡ Plain

pub record Plains : Type 0 where
  pub of_arcs : OfArcs
  pub of_rings : OfRings
  pub of_pairs : OfPairs
  pub of_loops : (h : Header) (ps ns : List Float) (cs : List ℕ) → h.mode ≡ Plain → OfLoops h ps ns cs
  pub of_building : OfBuilding
  pub of_bytes : OfBytes
