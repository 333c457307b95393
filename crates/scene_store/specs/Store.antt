-- SCOPE 28: areas in one lent store, the ring of each in the rest that was unused. SCOPE 54: they are built in plain mode. Definitions only.
use Rattle.std.specs.Prelude.{ℕ, ◌+◌, ◌*◌, ◌≤◌, ◌≡◌, List, ◌++◌, length, take, drop, replicate, Float}
use Rattle.vec3.specs.declared.Vec3.{Vec3}
use Rattle.minor_arc.specs.declared.Mode.TheVariants.{Plain}
use Rattle.loop_header.specs.Loops.{empty_header}
use Rattle.loop_build.specs.Build.{Outcome, build_outcome}
use Rattle.loop_ask.specs.Answers.{Told, refused, answer}
use Rattle.loop_ask.specs.Questions.{place_answer}
use Rattle.loop_triangles.specs.Triangles.{triangulate_outcome}
use Rattle.loop_relate.specs.Relations.{relate_answer}
use Rattle.scene_store.specs.declared.Area.{Area}

-- where no area stands
abbrev pub nobody : Area
nobody = record { number = 0; start = 0; header = empty_header Plain }

-- an area's own part of a store: three floats, or a class code, for each corner
abbrev pub corners : Area → List Float → List Float
corners a l = take (3 * a.header.count) (drop (3 * a.start) l)

abbrev pub codes : Area → List ℕ → List ℕ
codes a l = take a.header.count (drop a.start l)

-- a list built into the unused rest of the store, which stands after what is used
abbrev pub after : ℕ → List Float → List Float → List ℕ → Outcome → Outcome
after used ps ns cs o = record {
  answer = o.answer;
  positions = take (3 * used) ps ++ o.positions;
  normals = take (3 * used) ns ++ o.normals;
  classes = take used cs ++ o.classes;
}

unfoldable pub built_at : List Float → ℕ → List Float → List Float → List ℕ → Outcome
built_at l used ps ns cs = after used ps ns cs (build_outcome Plain l (drop (3 * used) ps) (drop (3 * used) ns) (drop used cs))

-- room for the triangles of any area
unfoldable pub blank : List ℕ
blank = replicate 1530 0

-- SCOPE 30: the number of triangles, 0 where 8 is given
abbrev pub counted : Told → ℕ
counted (refused k) = 0
counted (answer n) = n

unfoldable pub triangle_count : Area → List Float → List ℕ → ℕ
triangle_count a ps cs = counted (triangulate_outcome a.header (corners a ps) (codes a cs) blank).answer

unfoldable pub place_in : Area → List Float → List Float → List ℕ → Vec3 → Told
place_in a ps ns cs p = place_answer a.header (corners a ps) (corners a ns) (codes a cs) p

unfoldable pub pair_in : Area → Area → List Float → List Float → List ℕ → Told
pair_in a b ps ns cs = relate_answer a.header (corners a ps) (corners a ns) (codes a cs) b.header (corners b ps) (corners b ns) (codes b cs)

-- an area's corners lie within a store of this many
pub record Lies (a : Area) (ps ns : List Float) (cs : List ℕ) : Type 0 where
  pub ends : a.start + a.header.count ≤ 1024
  pub positions_size : length ps ≡ 3072
  pub normals_size : length ns ≡ 3072
  pub classes_size : length cs ≡ 1024

-- what a build into the rest of the store is lent: the record's bytes, a list of the exact size, and the store
pub record Room (s : List ℕ) (at count used list positions normals classes : ℕ) : Type 0 where
  pub small : length s ≤ 65536
  pub within : at + 24 * count ≤ length s
  pub exact : list ≡ 3 * count
  pub unused : used ≤ 1024
  pub positions_size : positions ≡ 3072
  pub normals_size : normals ≡ 3072
  pub classes_size : classes ≡ 1024
