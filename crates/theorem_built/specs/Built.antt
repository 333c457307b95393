-- A loop that `build` answered in either mode, a ring, EMPTY or FULL, handed back to any question with room and a query that is fine, is refused by none of 1
-- to 6 (SCOPE 25): by cutting with 8 alone, by the checker with 9 alone, by `relate` with 7 alone, and with 11 beside a loop of the other mode (SCOPE 56). Of
-- lists of doubles, as every lent slice is. Proved in proofs/Theorem.antt. Definitions only.
use Rattle.std.specs.Prelude.{ℕ, ◌-◌, ◌*◌, ◌%◌, ◌≤◌, ◌<◌, ◌≡◌, List, length, take, Float}
use Rattle.vec3.specs.declared.Vec3.{Vec3}
use Rattle.vec3.specs.Vec.{cleared}
use Rattle.judge.specs.Judge.{fault_of}
use Rattle.minor_arc.specs.declared.Mode.{Mode}
use Rattle.minor_arc.specs.declared.Mode.TheVariants.{Long}
use Rattle.loop_header.specs.declared.State.{State}
use Rattle.loop_header.specs.declared.State.TheVariants.{Empty, Full, Ring}
use Rattle.loop_header.specs.declared.Header.{Header}
use Rattle.loop_header.specs.Loops.{loop_fault}
use Rattle.loop_build.specs.Build as Build
use Rattle.loop_build.specs.Build.{Doubles, refusal, build_outcome}
use Rattle.loop_ask.specs.Answers.{Told, refused, answer}
use Rattle.loop_ask.specs.Questions.{place_answer, vertex_answer, on_edge_answer, convex_answer, simple_answer, equivalent_answer}
use Rattle.loop_distances.specs.Distances.{chord, far, boundary_answer}
use Rattle.loop_triangles.specs.Triangles.{triangulate_outcome, accepts_answer}
use Rattle.loop_triangles.specs.Demand.{Cutting}
use Rattle.loop_relate.specs.Relations.{relate_answer}
use Rattle.loop_relate.specs.Selves.{Meets}

-- a loop as the questions take it: its header, and its positions, normals and classes
pub record Loop : Type 0 where
  pub header : Header
  pub positions : List Float
  pub normals : List Float
  pub classes : List ℕ

-- what a call of `build` left. SCOPE 25, 27: of each slice as much as the count says, three floats or one code for each corner; past it stands what stood there
abbrev pub handed_back : Header → Build.Outcome → Loop
handed_back h o = record { header = h; positions = take (3 * h.count) o.positions; normals = take (3 * h.count) o.normals; classes = take h.count o.classes }

-- SCOPE 10: a loop as built: `build` answered it, in some mode, for some list of doubles and some lent slices
pub data AsBuilt : Loop → Type 0 where
  as_built : (mode : Mode) (l ps ns : List Float) (cs : List ℕ) (h : Header) → Doubles l → (build_outcome mode l ps ns cs).answer ≡ Build.loop h
      → AsBuilt (handed_back h (build_outcome mode l ps ns cs))

-- a question that is put to a loop
abbrev pub ask : {A : Type 0} → (Header → List Float → List Float → List ℕ → A) → Loop → A
ask question a = question a.header a.positions a.normals a.classes

-- SCOPE 27: one of the answers numbered 0 to m, and no refusal
pub record Answers (m : ℕ) (t : Told) : Type 0 where
  pub number : ℕ
  pub most : number ≤ m
  pub is : t ≡ answer number

-- SCOPE 17, 19: how many triangles a loop is cut into
abbrev pub triangle_count : State → ℕ → ℕ
triangle_count Empty n = 0
triangle_count Full n = 20
triangle_count Ring n = n - 2

-- SCOPE 25: all of them, or 8, and that of a ring above three alone
pub data Cut (h : Header) : Told → Type 0 where
  all : Cut h (answer (triangle_count h.state h.count))
  no_ear : h.state ≡ Ring → 3 < h.count → Cut h (refused 8)

-- SCOPE 25: 9 for the empty and the full loop; yes or no for a ring
abbrev pub Checked : State → Told → Type 0
Checked Empty t = t ≡ refused 9
Checked Full t = t ≡ refused 9
Checked Ring t = Answers 1 t

-- SCOPE 24, 25: of loops of one mode one of the six relations, or 7, and that of two rings alone; SCOPE 56: of loops of different modes 11
pub data Related (h o : Header) : Told → Type 0 where
  related : {t : Told} → h.mode ≡ o.mode → Answers 5 t → Related h o t
  each_in_other : h.mode ≡ o.mode → h.state ≡ Ring → o.state ≡ Ring → Related h o (refused 7)
  modes_differ : (h.mode ≡ o.mode → ⊥) → Related h o (refused 11)

-- SCOPE 25, 27: of loops as built in either mode; for a query that is fine, an output with room and a triangle slice in threes
pub record Built : Type 0 where
  -- every list of doubles that `build` does not refuse makes one
  pub build : (mode : Mode) (l ps ns : List Float) (cs : List ℕ) → Doubles l → refusal l ps ns cs ≡ 0 → (h : Header) × AsBuilt (handed_back h (build_outcome mode l ps ns cs))
  -- SCOPE 54: its mode is the one it was built in, EMPTY's and FULL's too
  pub stored_mode : (mode : Mode) (l ps ns : List Float) (cs : List ℕ) (h : Header) → (build_outcome mode l ps ns cs).answer ≡ Build.loop h → h.mode ≡ mode
  -- none of 1 to 4 and 6 is given to the loop itself
  pub loop_fault_lem : (a : Loop) → AsBuilt a → ask loop_fault a ≡ 0
  pub contains_position : (a : Loop) → AsBuilt a → (p : Vec3) → fault_of (cleared p) ≡ 0 → Answers 2 (ask place_answer a p)
  pub has_vertex_lem : (a : Loop) → AsBuilt a → (p : Vec3) → fault_of (cleared p) ≡ 0 → Answers 1 (ask vertex_answer a p)
  pub any_edge_contains_position : (a : Loop) → AsBuilt a → (p : Vec3) → fault_of (cleared p) ≡ 0 → Answers 1 (ask on_edge_answer a p)
  pub distance_to_boundary : (a : Loop) → AsBuilt a → (p : Vec3) → fault_of (cleared p) ≡ 0
      → ask boundary_answer a p ≡ chord (far a.positions a.normals a.header.count (cleared p))
  pub is_convex : (a : Loop) → AsBuilt a → Answers 1 (ask convex_answer a)
  pub is_simple_lem : (a : Loop) → AsBuilt a → Answers 1 (ask simple_answer a)
  pub is_equivalent_lem : (a b : Loop) → AsBuilt a → AsBuilt b → Answers 1 (ask (ask equivalent_answer a) b)
  pub triangulate : (a : Loop) → AsBuilt a → (tris : List ℕ) → 3 * triangle_count a.header.state a.header.count ≤ length tris
      → Cut a.header (triangulate_outcome a.header a.positions a.classes tris).answer
  -- SCOPE 20: of a ring as built and with room, all that the theorem on ears says of `triangulate` (`loop_triangles/specs/Demand`)
  pub ears : (a : Loop) → AsBuilt a → (tris : List ℕ) → a.header.state ≡ Ring → 3 * (a.header.count - 2) ≤ length tris → Cutting a.header a.positions a.classes tris
  pub accepts : (a : Loop) → AsBuilt a → (tris : List ℕ) → length tris % 3 ≡ 0 → Checked a.header.state (accepts_answer a.header a.positions a.classes tris)
  pub relate : (a b : Loop) → AsBuilt a → AsBuilt b → Related a.header b.header (ask (ask relate_answer a) b)
  -- SCOPE 24: beside itself a loop is equal where it is full or empty or its cap meets itself; SCOPE 55: in long mode always, as no cap is asked
  pub relate_itself : (a : Loop) → AsBuilt a → Meets a.header → ask (ask relate_answer a) a ≡ answer 5
  pub relate_itself_long : (a : Loop) → AsBuilt a → a.header.mode ≡ Long → ask (ask relate_answer a) a ≡ answer 5
