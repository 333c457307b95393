-- A loop that is not refused, related to itself, is Equal where its cap meets itself or it is full or empty, and in long mode always. Assumes nothing.
use Prim.Native.Nat.{ℕ, zero, suc, ◌+◌, ◌*◌, ◌%◌, ◌≤◌, ◌<◌}
use mathlib.Core.Path.{◌≡◌, refl, ap, ◌∙◌}
use mathlib.Core.Bool.{Bool, true, false, not, beq}
use mathlib.Core.List.{List}
use native.Mathlib.Nat.{add-zero, mod-eq_of_lt}
use native.Mathlib.Omega.{arith}
use lib.ListN.{get_or}
use lib.Ieee.{Float, nan, inf, fin, up, down, eq}
use borrow.Author.Tests.{eq-eqb, ne_eqb, leb-true}
use Rattle.std.specs.Prelude.{if◌then◌else◌}
use Rattle.numbers.specs.Finite.{finite}
use Rattle.laws.specs.Loop.{any_of}
use Rattle.laws.proofs.Firsts.{first_fine, first_of_zero}
use Rattle.vec3.specs.declared.Vec3.{Vec3}
use Rattle.vec3.specs.Vec.{same, pos_at}
use Rattle.judge.specs.Judge.{finite_vec, vector_fault, fault_of, position_fault, positions_fault}
use Rattle.cap.specs.Caps.{intersects}
use Rattle.minor_arc.specs.declared.Mode.{Mode}
use Rattle.minor_arc.specs.declared.Mode.TheVariants.{Plain, Long}
use Rattle.loop_header.specs.declared.State.{State}
use Rattle.loop_header.specs.declared.State.TheVariants.{Empty, Full, Ring}
use Rattle.loop_header.specs.declared.Header.{Header}
use Rattle.loop_header.specs.Loops.{count_fits, loop_fault}
use Rattle.loop_header.proofs.Shapes.{both_true}
use Rattle.loop_header.proofs.Sounds.{Sound, sound}
use Rattle.ring_shape.specs.Shapes.{agree, beside, agree_at, all_agree, same_rings}
use Rattle.loop_ask.specs.Answers.{answer}
use Rattle.loop_ask.specs.Questions.{pair_fault, equivalent_loops}
use Rattle.loop_ask.specs.Places.{cleared_cap}
use Rattle.loop_relate.specs.Relations.{caps_meet, by_caps, by_states, relate_fault, relate_answer}
use Rattle.loop_relate.specs.Selves.{Meets, full, empty, by_cap, Itself}
use Rattle.loop_relate.proofs.Modes.{with_itself}

-- ---- a finite position equals itself
number_itself : (s : Bool) → beq s s ≡ true
number_itself true = refl
number_itself false = refl

equals_itself : (x : Float) → finite x ≡ true → eq x x ≡ true
unfolding eq
equals_itself nan e = e
equals_itself (inf s) e = number_itself s
equals_itself (fin s m e) h = simp (eq-eqb (m * up e * down e) (m * up e * down e) refl, number_itself s)

pub same_itself : (v : Vec3) → finite_vec v ≡ true → same v v ≡ true
same_itself v h =
    let a = both_true _ _ h in
    let b = both_true _ _ a.0 in
    simp (equals_itself v.x b.0, equals_itself v.y b.1, equals_itself v.z a.1)

then_finite : (b : Bool) (k : ℕ) → (if b then k else 3) ≡ 0 → b ≡ true
then_finite true k e = refl
then_finite false k e = absurd (omega arith)

fine_finite : (v : Vec3) → fault_of v ≡ 0 → finite_vec v ≡ true
unfolding fault_of vector_fault
fine_finite v e = then_finite (finite_vec v) _ e

-- ---- a ring is the same as itself, forward from its first corner
none_of : (p : ℕ → Bool) (k i : ℕ) → ((j : ℕ) → j < k → p (i + j) ≡ false) → any_of p k i ≡ false
unfolding any_of
none_of p zero i h = refl
none_of p (suc k) i h =
    let e : p i ≡ false = rw add-zero at (h 0 (omega arith)) in
    simp e (none_of p k (suc i) (λ j g. let s : suc i + j ≡ i + suc j = omega arith in rw s (h (suc j) (omega arith))))

agrees : (ps : List Float) (cs : List ℕ) (n i : ℕ) → i < n → fault_of (pos_at ps i) ≡ 0 → agree_at false ps cs ps cs n 0 i ≡ true
unfolding agree beside
agrees ps cs n i h e =
    let s : (i + 0) % n ≡ i = mod-eq_of_lt (omega arith) ∙ add-zero i in
    simp (s, same_itself (pos_at ps i) (fine_finite (pos_at ps i) e), eq-eqb (get_or cs i 0) (get_or cs i 0) refl)

all_agree_lem : (ps : List Float) (cs : List ℕ) (n : ℕ) → positions_fault ps n ≡ 0 → all_agree false ps cs ps cs n 0 ≡ true
unfolding all_agree
all_agree_lem ps cs n e =
    ap not
    (none_of _ n 0
    (λ j h.
    let s : 0 + j ≡ j = omega arith in
    rw s (ap not (agrees ps cs n j h (rw s at (first_of_zero (position_fault ps) n 0 e j h))))))

pub same_rings_lem : (ps : List Float) (cs : List ℕ) (n : ℕ) → 0 < n → positions_fault ps n ≡ 0 → same_rings ps cs ps cs n ≡ true
unfolding same_rings any_of
same_rings_lem ps cs zero h e = absurd (omega arith)
same_rings_lem ps cs (suc k) h e = simp (all_agree_lem ps cs (suc k) e)

-- ---- so a loop is equal to itself
by_mode : (m : Mode) (h : Header) → intersects (cleared_cap h.cap) (cleared_cap h.cap) ≡ true → caps_meet m (cleared_cap h.cap) (cleared_cap h.cap) ≡ true
by_mode Plain h e = e
by_mode Long h e = refl

module _ (h : Header) (ps ns : List Float) (cs : List ℕ) (s : Sound h ps ns cs) where
  equivalent_ring : h.state ≡ Ring → equivalent_loops h ps cs h ps cs ≡ true
  unfolding equivalent_loops
  equivalent_ring e =
      let c : count_fits Ring h.count ≡ true = rw e at s.ring.shaped.fits in
      let least : 3 ≤ h.count = leb-true 3 h.count c in
      simp (eq-eqb h.count h.count refl, ne_eqb h.count 0 (λ z. omega arith), same_rings_lem ps cs h.count (omega arith) s.ring.positions_fine)

  by_state : (t : State) → h.state ≡ t → caps_meet h.mode (cleared_cap h.cap) (cleared_cap h.cap) ≡ true → by_states h ps ns cs h ps ns cs ≡ answer 5
  unfolding by_states by_caps
  by_state Full e m = simp e
  by_state Empty e m = simp e
  by_state Ring e m = simp (e, m, equivalent_ring e)

  equal_states : Meets h → by_states h ps ns cs h ps ns cs ≡ answer 5
  unfolding by_states
  equal_states (full e) = simp e
  equal_states (empty e) = simp e
  equal_states (by_cap m) = by_state h.state refl (by_mode h.mode h m)

  equal_long : h.mode ≡ Long → by_states h ps ns cs h ps ns cs ≡ answer 5
  equal_long e = by_state h.state refl (rw e)

module _ (h : Header) (ps ns : List Float) (cs : List ℕ) where
  answered : loop_fault h ps ns cs ≡ 0 → by_states h ps ns cs h ps ns cs ≡ answer 5 → relate_answer h ps ns cs h ps ns cs ≡ answer 5
  unfolding relate_fault relate_answer pair_fault
  answered e q = simp (first_fine (loop_fault h ps ns cs) (loop_fault h ps ns cs) e e, with_itself h.mode) q

  pub equal_to_itself : Itself h ps ns cs
  equal_to_itself = record {
    meeting = λ e m. answered e (equal_states h ps ns cs (sound h ps ns cs e) m);
    long = λ e m. answered e (equal_long h ps ns cs (sound h ps ns cs e) m);
  }
