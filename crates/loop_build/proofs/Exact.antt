-- Each refusal of `build` is given exactly when SCOPE 25 says, in the order of SCOPE 26: both directions. Assumes nothing.
use Prim.Native.Nat.{ℕ, suc, ◌*◌, ◌/◌, ◌%◌}
use mathlib.Core.Path.{◌≡◌, refl}
use mathlib.Core.Bool.{Bool, true, false, ◌&&◌, ◌||◌, cond, or-true}
use mathlib.Core.List.{List}
use lib.ListN.{length}
use lib.Dec.{eqb, leb, ltb}
use lib.Ieee.{Float}
use borrow.Author.Tests.{eqb-true, eqb-false, eq-eqb, ne_eqb, leb-true, leb-false, le-leb, lt-leb, ltb-true, ltb-false, lt-ltb, le-ltb}
use Rattle.laws.specs.Loop.{first}
use Rattle.minor_arc.specs.declared.Mode.{Mode}
use Rattle.judge.specs.Judge.{positions_fault}
use Rattle.judge.specs.Why.{Exactly, PositionsWhy}
use Rattle.judge.proofs.Exactly.{exactly, then_exact, refuses}
use Rattle.judge.proofs.Exact as Judge
use Rattle.loop_build.specs.Build.{Told, refused, loop, list_fault, room_fault, opened_count, refusal, outcome_if, build_outcome}
use Rattle.loop_build.specs.Why.{ListWhy, not_threes, too_many, in_positions, RoomWhy, short_positions, short_normals, short_classes, fewer, all_fit, BuildWhy, Exact}

-- ---- a list
module _ (l : List Float) where
  positions_exact : Exactly (positions_fault l (length l / 3)) (PositionsWhy l (length l / 3))
  positions_exact = (Judge.exact).positions l (length l / 3)

  list_why : (a b : Bool) → eqb (length l % 3) 0 ≡ a → ltb 512 (length l / 3) ≡ b → ListWhy l (first (cond a 0 1) (first (cond b 2 0) (positions_fault l (length l / 3))))
  list_why false b p q = not_threes (eqb-false (length l % 3) 0 p)
  list_why true true p q = too_many (eqb-true (length l % 3) 0 p) (ltb-true 512 (length l / 3) q)
  list_why true false p q = in_positions (eqb-true (length l % 3) 0 p) (ltb-false 512 (length l / 3) q) (positions_exact.given_why _ refl)

  why_list : (k : ℕ) → ListWhy l k → list_fault l ≡ k
  unfolding list_fault
  why_list _ (not_threes t) = rw (ne_eqb (length l % 3) 0 t)
  why_list _ (too_many t m) = rw (eq-eqb (length l % 3) 0 t, lt-ltb 512 (length l / 3) m)
  why_list _ (in_positions {k} t m w) = rw (eq-eqb (length l % 3) 0 t, le-ltb 512 (length l / 3) m) (positions_exact.why_given k w)

  list_exact : Exactly (list_fault l) (ListWhy l)
  list_exact = exactly (ListWhy l) (unfold list_fault in list_why (eqb (length l % 3) 0) (ltb 512 (length l / 3)) refl refl) why_list

-- ---- the room
module _ (n p q r : ℕ) where
  room_why : (a b c d : Bool) → leb 3 n ≡ a → ltb p (3 * n) ≡ b → ltb q (3 * n) ≡ c → ltb r n ≡ d → RoomWhy n p q r (cond (a && ((b || c) || d)) 5 0)
  room_why false b c d e f g h = fewer (leb-false 3 n e)
  room_why true true c d e f g h = short_positions (leb-true 3 n e) (ltb-true p (3 * n) f)
  room_why true false true d e f g h = short_normals (leb-true 3 n e) (ltb-true q (3 * n) g)
  room_why true false false true e f g h = short_classes (leb-true 3 n e) (ltb-true r n h)
  room_why true false false false e f g h = all_fit (ltb-false p (3 * n) f) (ltb-false q (3 * n) g) (ltb-false r n h)

  why_room : (k : ℕ) → RoomWhy n p q r k → room_fault n p q r ≡ k
  unfolding room_fault
  why_room _ (short_positions h s) = rw (le-leb 3 n h, lt-ltb p (3 * n) s)
  why_room _ (short_normals h s) = rw (le-leb 3 n h, lt-ltb q (3 * n) s, or-true)
  why_room _ (short_classes h s) = rw (le-leb 3 n h, lt-ltb r n s, or-true)
  why_room _ (fewer h) = rw (lt-leb 3 n h)
  why_room _ (all_fit f g h) = rw (le-ltb p (3 * n) f, le-ltb q (3 * n) g, le-ltb r n h) (none (leb 3 n))
    where
      none : (b : Bool) → ◌≡◌ {A = ℕ} (cond (b && false) 5 0) 0
      none true = refl
      none false = refl

  room_exact : Exactly (room_fault n p q r) (RoomWhy n p q r)
  room_exact = exactly (RoomWhy n p q r) (unfold room_fault in room_why (leb 3 n) (ltb p (3 * n)) (ltb q (3 * n)) (ltb r n) refl refl refl refl) why_room

-- ---- the answer
number : Told → ℕ
number (refused k) = suc k
number (loop h) = 0

module _ (l ps ns : List Float) (cs : List ℕ) where
  number_exact : Exactly (refusal l ps ns cs) (BuildWhy l ps ns cs)
  unfolding refusal
  number_exact = then_exact (list_exact l) (λ z. room_exact (opened_count l) (length ps) (length ns) (length cs))

  -- given, only if; and if
  pub given_why : (k : ℕ) → refusal l ps ns cs ≡ k → BuildWhy l ps ns cs k
  given_why = number_exact.given_why

  pub why_given : (k : ℕ) → BuildWhy l ps ns cs k → refusal l ps ns cs ≡ k
  why_given = number_exact.why_given

  some_loop : (b : Bool) (mode : Mode) (n : ℕ) → number (outcome_if b mode l n ps ns cs).answer ≡ 0
  unfolding number
  some_loop true mode n = refl
  some_loop false mode n = refl

  pub exact : Exact l ps ns cs
  unfolding number build_outcome
  exact = record {
    number = number_exact;
    building = λ mode. refuses refused number (λ k. refl) number_exact (λ z. rw z (some_loop (ltb (opened_count l) 3) mode (opened_count l))) (λ k e. rw e);
  }
