-- SCOPE 27: for each input, refused ones too, one answer and one final state of the lent buffers meets the contract: of each public function by name, over its
-- own postcondition (`Reads.Post`, its `ensures` as the prover reads it), so that a contract that says less breaks this. Proved in proofs/Theorem.antt.
-- Definitions only.
use Rattle.outcomes.specs.Outcomes.{One, OneToOne}
use Rattle.arcs.specs.Answers as Arcs
use Rattle.loop_build.specs.Build as Build
use Rattle.loop_ask.specs.Answers.{told_placed, told_answered}
use Rattle.loop_distances.specs.Distances.{told_distance}
use Rattle.loop_triangles.specs.Triangles.{told_cut}
use Rattle.loop_relate.specs.Relations.{told_related}
use Rattle.root.proofs.root as Root
use Rattle.root.proofs.root_bits as RootBits
use Rattle.arcs.proofs.new as ArcNew
use Rattle.arcs.proofs.opposite as ArcOpposite
use Rattle.arcs.proofs.side_of as ArcSideOf
use Rattle.arcs.proofs.contains_position as ArcContainsPosition
use Rattle.arcs.proofs.intersection as ArcIntersection
use Rattle.arcs.proofs.relate as ArcRelate
use Rattle.loop_build.proofs.build as LoopBuild
use Rattle.loop_ask.proofs.contains_position as LoopContainsPosition
use Rattle.loop_ask.proofs.has_vertex as LoopHasVertex
use Rattle.loop_ask.proofs.any_edge_contains_position as LoopAnyEdgeContainsPosition
use Rattle.loop_ask.proofs.is_convex as LoopIsConvex
use Rattle.loop_ask.proofs.is_simple as LoopIsSimple
use Rattle.loop_ask.proofs.is_equivalent as LoopIsEquivalent
use Rattle.loop_distances.proofs.distance_to as ArcDistanceTo
use Rattle.loop_distances.proofs.distance_to_boundary as LoopDistanceToBoundary
use Rattle.loop_triangles.proofs.triangulate as LoopTriangulate
use Rattle.loop_triangles.proofs.accepts as LoopAccepts
use Rattle.loop_relate.proofs.relate as LoopRelate
use Rattle.exports.proofs.floats.desk_root as DeskRoot
use Rattle.exports.proofs.floats.desk_atan2 as DeskAtan2
use Rattle.exports.proofs.loops.desk_build as DeskBuild
use Rattle.exports.proofs.loops.desk_build_long as DeskBuildLong
use Rattle.exports.proofs.loops.desk_place as DeskPlace
use Rattle.exports.proofs.loops.desk_vertex as DeskVertex
use Rattle.exports.proofs.loops.desk_on_edge as DeskOnEdge
use Rattle.exports.proofs.loops.desk_convex as DeskConvex
use Rattle.exports.proofs.loops.desk_simple as DeskSimple
use Rattle.exports.proofs.loops.desk_place_f64 as DeskPlaceF64
use Rattle.exports.proofs.loops.desk_triangles as DeskTriangles
use Rattle.exports.proofs.loops.desk_triangles_f64 as DeskTrianglesF64
use Rattle.exports.proofs.loops.desk_full_positions as DeskFullPositions
use Rattle.exports.proofs.loops.desk_accepts as DeskAccepts
use Rattle.exports.proofs.loops.desk_pair as DeskPair
use Rattle.exports.proofs.loops.desk_equivalent as DeskEquivalent
use Rattle.exports.proofs.loops.desk_pair_f64 as DeskPairF64
use Rattle.exports.proofs.loops.desk_build_f64 as DeskBuildF64
use Rattle.exports.proofs.loops.desk_build_long_f64 as DeskBuildLongF64
use Rattle.exports.proofs.minor_arcs.desk_arc as DeskArc
use Rattle.exports.proofs.minor_arcs.desk_arc_opposite as DeskArcOpposite
use Rattle.exports.proofs.minor_arcs.desk_arc_side as DeskArcSide
use Rattle.exports.proofs.minor_arcs.desk_arc_contains as DeskArcContains
use Rattle.exports.proofs.minor_arcs.desk_arc_intersection as DeskArcIntersection
use Rattle.exports.proofs.minor_arcs.desk_arc_relate as DeskArcRelate
use Rattle.exports.proofs.minor_arcs.desk_arc_intersection_long as DeskArcIntersectionLong
use Rattle.exports.proofs.minor_arcs.desk_arc_relate_long as DeskArcRelateLong
use Rattle.exports_scene.proofs.desk_scene as DeskScene
use Rattle.exports_far.proofs.desk_radians as DeskRadians
use Rattle.exports_far.proofs.desk_far as DeskFar
use Rattle.exports_far.proofs.desk_arc_far as DeskArcFar
use Rattle.exports_far.proofs.desk_far_f64 as DeskFarF64
use Rattle.scene_run.proofs.run as SceneRun
use Rattle.test_probes.proofs.leaf_vec as LeafVec
use Rattle.test_probes.proofs.leaf_number as LeafNumber
use Rattle.test_probes.proofs.leaf_case as LeafCase
use Rattle.test_probes.proofs.leaf_cap as LeafCap

-- the definitions of the answers that are enums, each one-to-one
pub record Definitions : Type 0 where
  pub arc_made : OneToOne Arcs.told_made
  pub arc_sided : OneToOne Arcs.told_sided
  pub arc_contained : OneToOne Arcs.told_contained
  pub arc_met : OneToOne Arcs.told_met
  pub arc_related : OneToOne Arcs.told_related
  pub built : OneToOne Build.told
  pub placed : OneToOne told_placed
  pub answered : OneToOne told_answered
  pub distance : OneToOne told_distance
  pub cut : OneToOne told_cut
  pub related : OneToOne told_related

-- crate root
pub record OfRoots : Type 0 where
  pub root : One Root.Kinds.ps Root.Kinds.r Root.Reads.Post
  pub root_bits : One RootBits.Kinds.ps RootBits.Kinds.r RootBits.Reads.Post

-- crate arcs
pub record OfArcs : Type 0 where
  pub new : One ArcNew.Kinds.ps ArcNew.Kinds.r ArcNew.Reads.Post
  pub opposite : One ArcOpposite.Kinds.ps ArcOpposite.Kinds.r ArcOpposite.Reads.Post
  pub side_of : One ArcSideOf.Kinds.ps ArcSideOf.Kinds.r ArcSideOf.Reads.Post
  pub contains_position : One ArcContainsPosition.Kinds.ps ArcContainsPosition.Kinds.r ArcContainsPosition.Reads.Post
  pub intersection : One ArcIntersection.Kinds.ps ArcIntersection.Kinds.r ArcIntersection.Reads.Post
  pub relate : One ArcRelate.Kinds.ps ArcRelate.Kinds.r ArcRelate.Reads.Post

-- crates loop_build, loop_ask, loop_distances, loop_triangles and loop_relate
pub record OfLoops : Type 0 where
  pub build : One LoopBuild.Kinds.ps LoopBuild.Kinds.r LoopBuild.Reads.Post
  pub contains_position : One LoopContainsPosition.Kinds.ps LoopContainsPosition.Kinds.r LoopContainsPosition.Reads.Post
  pub has_vertex : One LoopHasVertex.Kinds.ps LoopHasVertex.Kinds.r LoopHasVertex.Reads.Post
  pub any_edge_contains_position : One LoopAnyEdgeContainsPosition.Kinds.ps LoopAnyEdgeContainsPosition.Kinds.r LoopAnyEdgeContainsPosition.Reads.Post
  pub is_convex : One LoopIsConvex.Kinds.ps LoopIsConvex.Kinds.r LoopIsConvex.Reads.Post
  pub is_simple : One LoopIsSimple.Kinds.ps LoopIsSimple.Kinds.r LoopIsSimple.Reads.Post
  pub is_equivalent : One LoopIsEquivalent.Kinds.ps LoopIsEquivalent.Kinds.r LoopIsEquivalent.Reads.Post
  pub distance_to : One ArcDistanceTo.Kinds.ps ArcDistanceTo.Kinds.r ArcDistanceTo.Reads.Post
  pub distance_to_boundary : One LoopDistanceToBoundary.Kinds.ps LoopDistanceToBoundary.Kinds.r LoopDistanceToBoundary.Reads.Post
  pub triangulate : One LoopTriangulate.Kinds.ps LoopTriangulate.Kinds.r LoopTriangulate.Reads.Post
  pub accepts : One LoopAccepts.Kinds.ps LoopAccepts.Kinds.r LoopAccepts.Reads.Post
  pub relate : One LoopRelate.Kinds.ps LoopRelate.Kinds.r LoopRelate.Reads.Post

-- crates exports, exports_scene and exports_far
pub record OfExports : Type 0 where
  pub desk_root : One DeskRoot.Kinds.ps DeskRoot.Kinds.r DeskRoot.Reads.Post
  pub desk_atan2 : One DeskAtan2.Kinds.ps DeskAtan2.Kinds.r DeskAtan2.Reads.Post
  pub desk_build : One DeskBuild.Kinds.ps DeskBuild.Kinds.r DeskBuild.Reads.Post
  pub desk_build_long : One DeskBuildLong.Kinds.ps DeskBuildLong.Kinds.r DeskBuildLong.Reads.Post
  pub desk_place : One DeskPlace.Kinds.ps DeskPlace.Kinds.r DeskPlace.Reads.Post
  pub desk_vertex : One DeskVertex.Kinds.ps DeskVertex.Kinds.r DeskVertex.Reads.Post
  pub desk_on_edge : One DeskOnEdge.Kinds.ps DeskOnEdge.Kinds.r DeskOnEdge.Reads.Post
  pub desk_convex : One DeskConvex.Kinds.ps DeskConvex.Kinds.r DeskConvex.Reads.Post
  pub desk_simple : One DeskSimple.Kinds.ps DeskSimple.Kinds.r DeskSimple.Reads.Post
  pub desk_place_f64 : One DeskPlaceF64.Kinds.ps DeskPlaceF64.Kinds.r DeskPlaceF64.Reads.Post
  pub desk_triangles : One DeskTriangles.Kinds.ps DeskTriangles.Kinds.r DeskTriangles.Reads.Post
  pub desk_triangles_f64 : One DeskTrianglesF64.Kinds.ps DeskTrianglesF64.Kinds.r DeskTrianglesF64.Reads.Post
  pub desk_full_positions : One DeskFullPositions.Kinds.ps DeskFullPositions.Kinds.r DeskFullPositions.Reads.Post
  pub desk_accepts : One DeskAccepts.Kinds.ps DeskAccepts.Kinds.r DeskAccepts.Reads.Post
  pub desk_pair : One DeskPair.Kinds.ps DeskPair.Kinds.r DeskPair.Reads.Post
  pub desk_equivalent : One DeskEquivalent.Kinds.ps DeskEquivalent.Kinds.r DeskEquivalent.Reads.Post
  pub desk_pair_f64 : One DeskPairF64.Kinds.ps DeskPairF64.Kinds.r DeskPairF64.Reads.Post
  pub desk_build_f64 : One DeskBuildF64.Kinds.ps DeskBuildF64.Kinds.r DeskBuildF64.Reads.Post
  pub desk_build_long_f64 : One DeskBuildLongF64.Kinds.ps DeskBuildLongF64.Kinds.r DeskBuildLongF64.Reads.Post
  pub desk_arc : One DeskArc.Kinds.ps DeskArc.Kinds.r DeskArc.Reads.Post
  pub desk_arc_opposite : One DeskArcOpposite.Kinds.ps DeskArcOpposite.Kinds.r DeskArcOpposite.Reads.Post
  pub desk_arc_side : One DeskArcSide.Kinds.ps DeskArcSide.Kinds.r DeskArcSide.Reads.Post
  pub desk_arc_contains : One DeskArcContains.Kinds.ps DeskArcContains.Kinds.r DeskArcContains.Reads.Post
  pub desk_arc_intersection : One DeskArcIntersection.Kinds.ps DeskArcIntersection.Kinds.r DeskArcIntersection.Reads.Post
  pub desk_arc_relate : One DeskArcRelate.Kinds.ps DeskArcRelate.Kinds.r DeskArcRelate.Reads.Post
  pub desk_arc_intersection_long : One DeskArcIntersectionLong.Kinds.ps DeskArcIntersectionLong.Kinds.r DeskArcIntersectionLong.Reads.Post
  pub desk_arc_relate_long : One DeskArcRelateLong.Kinds.ps DeskArcRelateLong.Kinds.r DeskArcRelateLong.Reads.Post
  pub desk_scene : One DeskScene.Kinds.ps DeskScene.Kinds.r DeskScene.Reads.Post
  pub desk_radians : One DeskRadians.Kinds.ps DeskRadians.Kinds.r DeskRadians.Reads.Post
  pub desk_far : One DeskFar.Kinds.ps DeskFar.Kinds.r DeskFar.Reads.Post
  pub desk_arc_far : One DeskArcFar.Kinds.ps DeskArcFar.Kinds.r DeskArcFar.Reads.Post
  pub desk_far_f64 : One DeskFarF64.Kinds.ps DeskFarF64.Kinds.r DeskFarF64.Reads.Post

-- crate test_probes
pub record OfProbes : Type 0 where
  pub leaf_vec : One LeafVec.Kinds.ps LeafVec.Kinds.r LeafVec.Reads.Post
  pub leaf_number : One LeafNumber.Kinds.ps LeafNumber.Kinds.r LeafNumber.Reads.Post
  pub leaf_case : One LeafCase.Kinds.ps LeafCase.Kinds.r LeafCase.Reads.Post
  pub leaf_cap : One LeafCap.Kinds.ps LeafCap.Kinds.r LeafCap.Reads.Post

-- crate scene_run: the bytes lent for the text at exit, and how many of them are the text
pub record OfScenes : Type 0 where
  pub run : One SceneRun.Kinds.ps SceneRun.Kinds.r SceneRun.Reads.Post

pub record Unique : Type 0 where
  pub definitions : Definitions
  pub of_roots : OfRoots
  pub of_arcs : OfArcs
  pub of_loops : OfLoops
  pub of_exports : OfExports
  pub of_probes : OfProbes
  pub of_scenes : OfScenes
