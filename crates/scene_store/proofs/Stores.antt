-- An area's part of the store, and a ring built into its rest. Assumes nothing.
use Prim.Native.Nat.{ℕ, ◌+◌, ◌-◌, ◌*◌}
use mathlib.Core.Path.{◌≡◌, ap, ◌∙◌}
use mathlib.Core.List.{List, ◌++◌}
use native.Mathlib.Omega.{arith}
use lib.ListN.{length, take, drop}
use lib.Ieee.{Float}
use Rattle.laws.proofs.Rests.{rest, back}
use Rattle.vec3.specs.declared.Vec3.{Vec3}
use Rattle.minor_arc.specs.declared.Mode.TheVariants.{Plain}
use Rattle.loop_build.specs.Build.{build_outcome}
use Rattle.loop_build.specs.Build as B
use Rattle.loop_ask.specs.Answers.{Told}
use Rattle.loop_ask.specs.Questions.{place_answer}
use Rattle.loop_triangles.specs.Triangles.{triangulate_outcome}
use Rattle.loop_triangles.specs.Triangles as Cut
use Rattle.loop_relate.specs.Relations.{relate_answer}
use Rattle.scene_store.specs.declared.Area.{Area}
use Rattle.scene_store.specs.Store.{after, built_at, blank, counted, triangle_count, place_in, pair_in, Room}

-- the size of a part, from its ends
pub three : (s n : ℕ) → 3 * (s + n) - 3 * s ≡ 3 * n
three s n = omega arith

pub one : (s n : ℕ) → s + n - s ≡ n
one s n = omega arith

-- the parts as they are lent
abbrev pub threes : Area → List Float → List Float
threes a l = take (3 * (a.start + a.header.count) - 3 * a.start) (drop (3 * a.start) l)

abbrev pub ones : Area → List ℕ → List ℕ
ones a l = take (a.start + a.header.count - a.start) (drop a.start l)

module _ (ps ns : List Float) (cs : List ℕ) {t : Told} where
  pub placed : (a : Area) (p : Vec3) → t ≡ place_answer a.header (threes a ps) (threes a ns) (ones a cs) p → t ≡ place_in a ps ns cs p
  unfolding place_in
  placed a p e = rw (three a.start a.header.count, one a.start a.header.count) at e

  pub paired : (a b : Area) → t ≡ relate_answer a.header (threes a ps) (threes a ns) (ones a cs) b.header (threes b ps) (threes b ns) (ones b cs) → t ≡ pair_in a b ps ns cs
  unfolding pair_in
  paired a b e = rw (three a.start a.header.count, one a.start a.header.count, three b.start b.header.count, one b.start b.header.count) at e

-- an area cut
pub cut : {t : Told} {l : List ℕ} {r : ℕ} (a : Area) (ps : List Float) (cs b : List ℕ)
    → record { answer = t; triangles = l } ≡ triangulate_outcome a.header (threes a ps) (ones a cs) b
    → b ≡ blank → r ≡ counted t → r ≡ triangle_count a ps cs
unfolding triangle_count
cut a ps cs b e q h = h ∙ ap (λ (o : Cut.Outcome). counted o.answer) (rw (three a.start a.header.count, one a.start a.header.count, q) at e)

-- what a build left in the rest
pub built : {l : List Float} {a : B.Told} {ps' ns' : List Float} {cs' : List ℕ} (f : List Float) (used : ℕ) (ps ns : List Float) (cs : List ℕ) → l ≡ f
    → record { answer = a; positions = ps'; normals = ns'; classes = cs' }
    ≡ build_outcome Plain l (take (length ps - 3 * used) (drop (3 * used) ps)) (take (length ns - 3 * used) (drop (3 * used) ns)) (take (length cs - used) (drop used cs))
    → record {
      answer = a;
      positions = take (3 * used) ps ++ (ps' ++ drop (length ps - 3 * used) (drop (3 * used) ps));
      normals = take (3 * used) ns ++ (ns' ++ drop (length ns - 3 * used) (drop (3 * used) ns));
      classes = take used cs ++ (cs' ++ drop (length cs - used) (drop used cs));
    } ≡ built_at f used ps ns cs
unfolding built_at
built {ps' = ps'} {ns' = ns'} {cs' = cs'} f used ps ns cs g e =
    rw (back (3 * used) ps ps', back (3 * used) ns ns', back used cs cs')
    (ap (after used ps ns cs) (rw (rest (3 * used) ps, rest (3 * used) ns, rest used cs, g) at e))

-- the work list is of the exact size
pub exactly : {s : List ℕ} {at count used n m p q r : ℕ} → Room s at count used n p q r → m ≡ n → Room s at count used m p q r
exactly x e = record {
  small = x.small;
  within = x.within;
  exact = e ∙ x.exact;
  unused = x.unused;
  positions_size = x.positions_size;
  normals_size = x.normals_size;
  classes_size = x.classes_size;
}
