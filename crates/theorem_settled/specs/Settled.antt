-- SCOPE 37: the whole list of worked examples as one statement, over the definitions that the contracts cite; loops are in plain mode. Proved in
-- proofs/Theorem.antt. Definitions only.
use Rattle.std.specs.Prelude.{ℕ, ◌*◌, ◌≡◌, Bool, true, false, List, [], ◌∷◌, ◌++◌, replicate, Float}
use Rattle.std.specs.Float.{binary64}
use Rattle.std.specs.Float.Ieee.{of_bits}
use Rattle.numbers.specs.F64.{zero, two, four}
use Rattle.root.specs.Root.{root_of}
use Rattle.vec3.specs.declared.Vec3.{Vec3}
use Rattle.vec3.specs.Vec.{cleared, axis_x, axis_y, axis_z, same, coords}
use Rattle.base.specs.declared.Side.TheVariants.{Left, Right, Collinear}
use Rattle.base.specs.Sides.{side_of}
use Rattle.minor_arc.specs.declared.Mode.TheVariants.{Plain}
use Rattle.ring_corners.specs.Corners.{opened}
use Rattle.loop_header.specs.declared.Header.{Header}
use Rattle.loop_header.specs.declared.State.{State}
use Rattle.loop_header.specs.declared.State.TheVariants.{Ring}
use Rattle.loop_header.specs.Loops.{empty_header, full_header}
use Rattle.loop_build.specs.Build.{Told, refused, loop, Outcome, build_outcome, kept}
use Rattle.loop_ask.specs.Answers as Answers
use Rattle.loop_triangles.specs.Triangles as Triangles
use Rattle.loop_triangles.specs.Triangles.{triangulate_outcome, accepts_answer}
use Rattle.loop_relate.specs.Relations.{relate_answer}

-- 0.6, 0.8, -0.6 and 2^-537
abbrev pub six_tenths : Float
six_tenths = of_bits binary64 0x3fe3_3333_3333_3333

abbrev pub eight_tenths : Float
eight_tenths = of_bits binary64 0x3fe9_9999_9999_999a

abbrev pub minus_six_tenths : Float
minus_six_tenths = of_bits binary64 0xbfe3_3333_3333_3333

abbrev pub least : Float
least = of_bits binary64 1

abbrev pub root_of_least : Float
root_of_least = of_bits binary64 0x1e60_0000_0000_0000

abbrev pub at : Float → Float → Float → Vec3
at x y z = record { x = x; y = y; z = z }

-- ---- openings: of positions that equal themselves, whether or not they equal each other
pub record Openings (a b c : Vec3) : Type 0 where
  pub one : opened (coords a) 1 ≡ 0
  pub closed_once : opened (coords a ++ coords b ++ coords c ++ coords a) 4 ≡ 3
  pub closed_twice : opened (coords a ++ coords b ++ coords c ++ coords a ++ coords a) 5 ≡ 4

-- ---- the lists, and what building makes of each in slices of zeros that have room for n corners
abbrev pub area_1 : List Float
area_1 = coords axis_x ++ coords axis_y ++ coords axis_z

abbrev pub flat_list : List Float
flat_list = coords axis_x ++ coords (at six_tenths eight_tenths zero) ++ coords axis_y

abbrev pub four_corners : List Float
four_corners = coords (at six_tenths zero eight_tenths) ++ coords (at zero six_tenths eight_tenths) ++ coords (at minus_six_tenths zero eight_tenths) ++ coords (at zero minus_six_tenths eight_tenths)

abbrev pub blank : ℕ → List Float
blank n = replicate (3 * n) zero

abbrev pub blank_classes : ℕ → List ℕ
blank_classes n = replicate n 2

abbrev pub built : List Float → ℕ → Outcome
built l n = build_outcome Plain l (blank n) (blank n) (blank_classes n)

-- the header of a loop that was built
abbrev pub header_of : Told → Header
header_of (refused k) = empty_header Plain
header_of (loop h) = h

-- what a reader sees of a ring that was built: state, count and marks, corners and classes
pub record Seen : Type 0 where
  pub state : State
  pub count : ℕ
  pub reversed : Bool
  pub weak : Bool
  pub corners : List Float
  pub classes : List ℕ

abbrev pub seen_with : Header → List Float → List ℕ → Seen
seen_with h ps cs = record { state = h.state; count = h.count; reversed = h.reversed; weak = h.weak; corners = ps; classes = cs }

abbrev pub seen : Outcome → Seen
seen o = seen_with (header_of o.answer) o.positions o.classes

-- the four corners from the last to the first
abbrev pub four_reversed : List Float
four_reversed =
    coords (at zero minus_six_tenths eight_tenths) ++ coords (at minus_six_tenths zero eight_tenths) ++
    coords (at zero six_tenths eight_tenths) ++ coords (at six_tenths zero eight_tenths)

-- the loop of four corners as built, cut and checked
abbrev pub four_built : Outcome
four_built = built four_corners 4

abbrev pub four_cut : Triangles.Outcome
four_cut = triangulate_outcome (header_of four_built.answer) four_built.positions four_built.classes (replicate 6 0)

abbrev pub four_checked : List ℕ → Answers.Told
four_checked tris = accepts_answer (header_of four_built.answer) four_built.positions four_built.classes tris

-- FULL and EMPTY as built, related
abbrev pub full_one_lem : Header
full_one_lem = header_of (built flat_list 3).answer

abbrev pub empty_one_lem : Header
empty_one_lem = header_of (built [] 0).answer

abbrev pub related : Header → Header → Answers.Told
related h o = relate_answer h [] [] [] o [] [] []

pub record Settled : Type 0 where
  -- the side of (X,Y,Z) is left, of (X,Z,Y) right, of (X,X,Y) collinear
  pub left : side_of axis_x axis_y axis_z ≡ Left
  pub right : side_of axis_x axis_z axis_y ≡ Right
  pub collinear : side_of axis_x axis_x axis_y ≡ Collinear
  -- the root of 4 is 2, of 2^-1074 is 2^-537
  pub root_4 : root_of four ≡ two
  pub root_least : root_of least ≡ root_of_least
  -- opening [a] leaves 0, [a,b,c,a] leaves 3, [a,b,c,a,a] leaves 4
  pub openings : (a b c : Vec3) → same (cleared a) (cleared a) ≡ true → Openings a b c
  -- the ring of area 1 is Z, Y, X, all convex; its line says `3 ring reversed steady`
  pub area_1_ring : seen (built area_1 3) ≡ record { state = Ring; count = 3; reversed = true; weak = false; corners = coords axis_z ++ coords axis_y ++ coords axis_x; classes = 0 ∷ 0 ∷ 0 ∷ [] }
  -- X, (0.6,0.8,0), Y is FULL, its slices as they were
  pub full : built flat_list 3 ≡ kept (loop (full_header Plain false)) (blank 3) (blank 3) (blank_classes 3)
  -- (0.6,0,0.8), (0,0.6,0.8), (-0.6,0,0.8), (0,-0.6,0.8) is reversed, and all its corners are convex
  pub four_ring : seen four_built ≡ record { state = Ring; count = 4; reversed = true; weak = false; corners = four_reversed; classes = 0 ∷ 0 ∷ 0 ∷ 0 ∷ [] }
  -- it is cut into (3,0,1), (1,2,3)
  pub four_triangles : four_cut ≡ record { answer = Answers.answer 2; triangles = 3 ∷ 0 ∷ 1 ∷ 1 ∷ 2 ∷ 3 ∷ [] }
  -- the checker accepts that, and also (0,1,2), (0,2,3), but not (0,1,3), (1,2,3)
  pub four_own : four_checked (3 ∷ 0 ∷ 1 ∷ 1 ∷ 2 ∷ 3 ∷ []) ≡ Answers.answer 1
  pub four_also : four_checked (0 ∷ 1 ∷ 2 ∷ 0 ∷ 2 ∷ 3 ∷ []) ≡ Answers.answer 1
  pub four_not : four_checked (0 ∷ 1 ∷ 3 ∷ 1 ∷ 2 ∷ 3 ∷ []) ≡ Answers.answer 0
  -- FULL to EMPTY is containing, EMPTY to FULL disjoint
  pub containing : related full_one_lem empty_one_lem ≡ Answers.answer 3
  pub disjoint : related empty_one_lem full_one_lem ≡ Answers.answer 0
