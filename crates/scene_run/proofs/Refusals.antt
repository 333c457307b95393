-- No refusal of a list, a place, a far or a pair has a number above 11: there is no reason for one. Assumes nothing.
use Prim.Native.Nat.{ℕ, ◌*◌, ◌≤◌}
use mathlib.Core.Path.{◌≡◌, refl}
use mathlib.Core.List.{List}
use native.Mathlib.Omega.{arith}
use lib.ListN.{drop}
use lib.Ieee.{Float}
use Rattle.vec3.specs.declared.Vec3.{Vec3}
use Rattle.vec3.specs.Vec.{cleared}
use Rattle.minor_arc.specs.declared.Mode.TheVariants.{Plain}
use Rattle.loop_header.specs.declared.Header.{Header}
use Rattle.loop_header.proofs.Most.{then_most, position_most, positions_most, loop_most}
use Rattle.loop_build.specs.Build as B
use Rattle.loop_build.specs.Why.{ListWhy, not_threes, too_many, in_positions, RoomWhy, short_positions, short_normals, short_classes, fewer, all_fit}
use Rattle.loop_build.proofs.Exact as Build
use Rattle.loop_ask.specs.Answers.{Told, refused, answer}
use Rattle.loop_ask.specs.Questions.{place_answer}
use Rattle.loop_ask.proofs.Exact as Ask
use Rattle.loop_relate.specs.Why.{RelateWhy, loops, modes, seven}
use Rattle.loop_relate.specs.Relations.{relate_answer}
use Rattle.loop_relate.proofs.Exact as Relate
use Rattle.scene_store.specs.declared.Area.{Area}
use Rattle.scene_store.specs.Store.{corners, codes, built_at, place_in, pair_in}

up : (k : ℕ) → k ≤ 6 → k ≤ 11
up k l = omega arith

-- ---- what is told: a refusal's number is at most 11
abbrev pub Few : Told → Type 0
Few (refused k) = k ≤ 11
Few (answer n) = Unit {0}

few : (t : Told) → ((k : ℕ) → t ≡ refused k → k ≤ 11) → Few t
few (refused k) h = h k refl
few (answer n) h = tt

place_told_lem : (h : Header) (ps ns : List Float) (cs : List ℕ) (p : Vec3) → Few (place_answer h ps ns cs p)
place_told_lem h ps ns cs p =
    few (place_answer h ps ns cs p)
    (λ k e. up k (then_most 6 (loop_most h ps ns cs) (position_most (cleared p)) k (((Ask.exact h ps ns cs).place p).given_why k e).1))

pub place_few : (a : Area) (ps ns : List Float) (cs : List ℕ) (p : Vec3) → Few (place_in a ps ns cs p)
unfolding place_in
place_few a ps ns cs p = place_told_lem a.header (corners a ps) (corners a ns) (codes a cs) p

module _ (h : Header) (ps ns : List Float) (cs : List ℕ) (o : Header) (qs ms : List Float) (ds : List ℕ) where
  relate_most : (k : ℕ) → RelateWhy h ps ns cs o qs ms ds k → k ≤ 11
  relate_most _ (loops w) = up _ (then_most 6 (loop_most h ps ns cs) (loop_most o qs ms ds) _ w)
  relate_most _ (modes w d) = omega arith
  relate_most _ (seven s) = omega arith

  relate_told_lem : Few (relate_answer h ps ns cs o qs ms ds)
  relate_told_lem = few (relate_answer h ps ns cs o qs ms ds) (λ k e. relate_most k ((Relate.exact h ps ns cs o qs ms ds).relate.given_why k e).1)

pub pair_few : (a b : Area) (ps ns : List Float) (cs : List ℕ) → Few (pair_in a b ps ns cs)
unfolding pair_in
pair_few a b ps ns cs = relate_told_lem a.header (corners a ps) (corners a ns) (codes a cs) b.header (corners b ps) (corners b ns) (codes b cs)

-- ---- a list that is built
abbrev pub BuiltFew : B.Told → Type 0
BuiltFew (B.refused k) = k ≤ 11
BuiltFew (B.loop h) = Unit {0}

list_most : (l : List Float) (k : ℕ) → ListWhy l k → k ≤ 6
list_most l _ (not_threes t) = omega arith
list_most l _ (too_many t m) = omega arith
list_most l k (in_positions t m w) = positions_most l _ k w

room_most : (n p q c k : ℕ) → RoomWhy n p q c k → k ≤ 6
room_most n p q c _ (short_positions l s) = omega arith
room_most n p q c _ (short_normals l s) = omega arith
room_most n p q c _ (short_classes l s) = omega arith
room_most n p q c _ (fewer l) = omega arith
room_most n p q c _ (all_fit a b d) = omega arith

module _ (l ps ns : List Float) (cs : List ℕ) where
  built : (t : B.Told) → (B.build_outcome Plain l ps ns cs).answer ≡ t → BuiltFew t
  built (B.refused k) e = up k (then_most 6 (list_most l) (room_most _ _ _ _) k (((Build.exact l ps ns cs).building Plain).given_why k e).1)
  built (B.loop h) e = tt

pub built_few : (l : List Float) (used : ℕ) (ps ns : List Float) (cs : List ℕ) → BuiltFew (built_at l used ps ns cs).answer
unfolding built_at
built_few l used ps ns cs = built l (drop (3 * used) ps) (drop (3 * used) ns) (drop used cs) _ refl
