-- What no refusal tells of a list and of the room that is lent for its ring. Assumes nothing.
use Prim.Native.Nat.{ℕ, ◌*◌, ◌/◌, ◌%◌, ◌≤◌}
use mathlib.Core.Path.{◌≡◌, refl, sym}
use mathlib.Core.Bool.{Bool, true, false, ◌&&◌, ◌||◌}
use mathlib.Core.List.{List}
use native.Mathlib.Omega.{arith}
use lib.ListN.{length}
use lib.Ieee.{Float}
use borrow.Author.Tests.{eqb-true, ltb-false, le-leb}
use Rattle.laws.proofs.Firsts.{first_zero_lem, test_none, test_passed}
use Rattle.judge.specs.Judge.{positions_fault}
use Rattle.ring_corners.proofs.Openings.{opened_le}
use Rattle.loop_build.specs.Build.{list_fault, room_fault, opened_count, refusal}

pub record Listed (l : List Float) : Type 0 where
  pub threes : length l % 3 ≡ 0
  pub few : length l / 3 ≤ 512
  pub positions_fine : positions_fault l (length l / 3) ≡ 0
  pub small : opened_count l ≤ 512
  pub within : 3 * opened_count l ≤ length l

pub list_fine : (l : List Float) → list_fault l ≡ 0 → Listed l
unfolding list_fault
list_fine l e =
    let a = first_zero_lem _ _ e in
    let t : length l % 3 ≡ 0 = eqb-true _ _ (test_passed _ _ a.0) in
    let b = first_zero_lem _ _ a.1 in
    let f : length l / 3 ≤ 512 = ltb-false _ _ (test_none _ _ b.0) in
    let o : opened_count l ≤ length l / 3 = opened_le l (length l / 3) in
    record { threes = t; few = f; positions_fine = b.1; small = omega arith; within = omega arith }

or_false : (a b : Bool) → a || b ≡ false → (a ≡ false) × (b ≡ false)
or_false true b e = (e, cc)
or_false false b e = (refl, e)

and_false : (a b : Bool) → a ≡ true → a && b ≡ false → b ≡ false
and_false true b p e = e
and_false false b p e = cc

pub record Room (n positions normals classes : ℕ) : Type 0 where
  pub for_positions : 3 * n ≤ positions
  pub for_normals : 3 * n ≤ normals
  pub for_classes : n ≤ classes

pub room : (n p q r : ℕ) → room_fault n p q r ≡ 0 → 3 ≤ n → Room n p q r
unfolding room_fault
room n p q r e h =
    let a = or_false _ _ (and_false _ _ (le-leb 3 n h) (test_none _ _ e)) in
    let b = or_false _ _ a.0 in
    record { for_positions = ltb-false _ _ b.0; for_normals = ltb-false _ _ b.1; for_classes = ltb-false _ _ a.1 }

-- of a list that no refusal is given for
pub fine : (l ps ns : List Float) (cs : List ℕ) → refusal l ps ns cs ≡ 0 → (list_fault l ≡ 0) × (room_fault (opened_count l) (length ps) (length ns) (length cs) ≡ 0)
unfolding refusal
fine l ps ns cs e = first_zero_lem _ _ e

-- of a list that is refused nothing: as its room is judged
pub opened_small : (l : List Float) → 0 ≡ list_fault l → opened_count l ≤ 512
opened_small l e = let r = list_fine l (sym e) in r.small
