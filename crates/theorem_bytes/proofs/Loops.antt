-- A loop that is written in bytes and read again is the same: count, state, marks and mode, cap, insides, positions, normals and classes. Assumes nothing.
use Prim.Native.Nat.{ℕ, ◌+◌, ◌*◌, ◌/◌, ◌%◌, ◌≤◌, ◌<◌}
use mathlib.Core.Path.{◌≡◌, refl, ap, ◌∙◌}
use mathlib.Core.Bool.{Bool, true, false}
use mathlib.Core.List.{List, [], ◌++◌, append_assoc}
use native.Mathlib.Omega.{arith}
use lib.ListN.{length, length-append}
use lib.Seq.{drop_at}
use Rattle.std.specs.Prelude.{Option, None, Some, is_some}
use Rattle.vec3.specs.declared.Vec3.{Vec3}
use Rattle.minor_arc.specs.declared.Mode.{Mode}
use Rattle.minor_arc.specs.declared.Mode.TheVariants.{Plain, Long}
use Rattle.loop_header.specs.declared.State.{State}
use Rattle.loop_header.specs.declared.State.TheVariants.{Empty, Full, Ring}
use Rattle.loop_header.specs.declared.Header.{Header}
use Rattle.loop_header.specs.Loops.{state_code}
use Rattle.wire.specs.Wire.{u64_of, bytes8, floats_bytes}
use Rattle.wire.proofs.Back.{float_back}
use Rattle.wire.proofs.Lays.{floats_width}
use Rattle.bytes_loop.specs.Layout.{header_size, normals_from, classes_from, loop_size, count_at, state_byte, marks_at, state_of, marked, cap_at, insides_at, mode_of, header_at}
use Rattle.bytes_loop.specs.Layout.{positions_at, normals_at, classes_at, mark_if, is_long, marks_of, header_bytes}
use Rattle.bytes_loop.proofs.Parts.{header_width}
use Rattle.theorem_built.specs.Built.{Loop}
use Rattle.theorem_bytes.specs.Returned.{bytes_of, loop_at}
use Rattle.theorem_bytes.proofs.Floats.{Stands, stands_last, stands_before, floats_back}
use Rattle.theorem_bytes.proofs.Kept.{KeptCap, KeptInsides, Kept}

-- ---- numbers of the header
count_small : (n : ℕ) → n < 65536 → n % 256 + 256 * (n / 256 % 256) ≡ n
count_small n h = omega arith

state_back : (t : State) → state_of (state_code t) ≡ t
unfolding state_of
state_back Empty = refl
state_back Full = refl
state_back Ring = refl

mode_back : (m : Mode) → mode_of (is_long m) ≡ m
mode_back Plain = refl
mode_back Long = refl

record MarksBack (reversed weak insides long : Bool) (marks : ℕ) : Type 0 where
  reversed_is : marked marks 1 ≡ reversed
  weak_is : marked marks 2 ≡ weak
  insides_is : marked marks 4 ≡ insides
  long_is : marked marks 8 ≡ long

marks_back : (a b c d : Bool) → MarksBack a b c d (mark_if a 1 + mark_if b 2 + mark_if c 4 + mark_if d 8)
unfolding mark_if
marks_back true true true true = record { reversed_is = refl; weak_is = refl; insides_is = refl; long_is = refl }
marks_back true true true false = record { reversed_is = refl; weak_is = refl; insides_is = refl; long_is = refl }
marks_back true true false true = record { reversed_is = refl; weak_is = refl; insides_is = refl; long_is = refl }
marks_back true true false false = record { reversed_is = refl; weak_is = refl; insides_is = refl; long_is = refl }
marks_back true false true true = record { reversed_is = refl; weak_is = refl; insides_is = refl; long_is = refl }
marks_back true false true false = record { reversed_is = refl; weak_is = refl; insides_is = refl; long_is = refl }
marks_back true false false true = record { reversed_is = refl; weak_is = refl; insides_is = refl; long_is = refl }
marks_back true false false false = record { reversed_is = refl; weak_is = refl; insides_is = refl; long_is = refl }
marks_back false true true true = record { reversed_is = refl; weak_is = refl; insides_is = refl; long_is = refl }
marks_back false true true false = record { reversed_is = refl; weak_is = refl; insides_is = refl; long_is = refl }
marks_back false true false true = record { reversed_is = refl; weak_is = refl; insides_is = refl; long_is = refl }
marks_back false true false false = record { reversed_is = refl; weak_is = refl; insides_is = refl; long_is = refl }
marks_back false false true true = record { reversed_is = refl; weak_is = refl; insides_is = refl; long_is = refl }
marks_back false false true false = record { reversed_is = refl; weak_is = refl; insides_is = refl; long_is = refl }
marks_back false false false true = record { reversed_is = refl; weak_is = refl; insides_is = refl; long_is = refl }
marks_back false false false false = record { reversed_is = refl; weak_is = refl; insides_is = refl; long_is = refl }

-- ---- the header, before whatever follows it
module _ (h : Header) (r : List ℕ) where
  count_back : h.count < 65536 → count_at (header_bytes h ++ r) ≡ h.count
  unfolding header_bytes
  count_back g = count_small h.count g

  pub state_at : state_byte (header_bytes h ++ r) ≡ state_code h.state
  unfolding header_bytes
  state_at = refl

  marks_at_lem : marks_at (header_bytes h ++ r) ≡ marks_of h
  unfolding header_bytes
  marks_at_lem = refl

  cap_back : KeptCap h.cap → cap_at (header_bytes h ++ r) ≡ h.cap
  unfolding header_bytes bytes8 u64_of
  cap_back k =
      let v = h.cap.centre in
      let c = k.centre_clear.doubles in
      rw (
        float_back v.x [] c.x_fits,
        float_back v.y [] c.y_fits,
        float_back v.z [] c.z_fits,
        k.centre_clear.clear,
        float_back h.cap.radius.0 [] k.radius_fits,
      )

  insides_by : (i : Option (Vec3 × Vec3)) → h.insides ≡ i → KeptInsides i → insides_at (header_bytes h ++ r) ≡ i
  unfolding header_bytes bytes8 u64_of insides_at
  insides_by None e k = rw ((marks_back h.reversed h.weak (is_some h.insides) (is_long h.mode)).insides_is, e)
  insides_by (Some (a, b)) e k =
      let c = k.0.doubles in
      let d = k.1.doubles in
      rw (
        (marks_back h.reversed h.weak (is_some h.insides) (is_long h.mode)).insides_is,
        e,
        float_back a.x [] c.x_fits,
        float_back a.y [] c.y_fits,
        float_back a.z [] c.z_fits,
        k.0.clear,
        float_back b.x [] d.x_fits,
        float_back b.y [] d.y_fits,
        float_back b.z [] d.z_fits,
        k.1.clear,
      )

  pub header_back : h.count < 65536 → KeptCap h.cap → KeptInsides h.insides → header_at (header_bytes h ++ r) ≡ h
  header_back g c i =
      let m = marks_back h.reversed h.weak (is_some h.insides) (is_long h.mode) in
      rw (count_back g, state_at, state_back h.state, cap_back c, insides_by h.insides refl i, marks_at_lem, m.reversed_is, m.weak_is, m.long_is, mode_back h.mode)

-- ---- all of it
module _ (a : Loop) (k : Kept a) (few : a.header.count ≤ 512) (for_positions : length a.positions ≡ 3 * a.header.count) (for_normals : length a.normals ≡ 3 * a.header.count) where
  front : bytes_of a ≡ header_bytes a.header ++ (floats_bytes a.positions ++ (floats_bytes a.normals ++ a.classes))
  front =
      let H = header_bytes a.header in
      let P = floats_bytes a.positions in
      let N = floats_bytes a.normals in
      append_assoc (H ++ P) N a.classes ∙ append_assoc H P (N ++ a.classes)

  header_same : header_at (bytes_of a) ≡ a.header
  header_same = rw front (header_back a.header _ (omega arith) k.cap k.insides)

  pub state_code_lem : state_byte (bytes_of a) ≡ state_code a.header.state
  state_code_lem = rw front (state_at a.header _)

  pub count_same : count_at (bytes_of a) ≡ a.header.count
  count_same = ap (λ (h : Header). h.count) header_same

  positions_stand : Stands (bytes_of a) header_size (floats_bytes a.positions)
  positions_stand =
      let h = header_width a.header in
      let P = floats_bytes a.positions in
      let N = floats_bytes a.normals in
      let H = header_bytes a.header in
      let l : length (H ++ P) ≡ length H + length P = length-append H P in
      let m : length (H ++ P ++ N) ≡ length (H ++ P) + length N = length-append (H ++ P) N in
      stands_before (H ++ P ++ N) P a.classes header_size (omega arith) (stands_before (H ++ P) P N header_size (omega arith) (stands_last H P h))

  normals_stand : Stands (bytes_of a) (normals_from a.header.count) (floats_bytes a.normals)
  normals_stand =
      let h = header_width a.header in
      let P = floats_bytes a.positions in
      let N = floats_bytes a.normals in
      let H = header_bytes a.header in
      let l : length (H ++ P) ≡ length H + length P = length-append H P in
      let m : length (H ++ P ++ N) ≡ length (H ++ P) + length N = length-append (H ++ P) N in
      let p = floats_width a.positions in
      stands_before (H ++ P ++ N) N a.classes (normals_from a.header.count) (omega arith) (stands_last (H ++ P) N (omega arith))

  positions_same : positions_at (bytes_of a) ≡ a.positions
  positions_same = rw (count_same, ← for_positions) (floats_back (bytes_of a) header_size a.positions k.positions positions_stand)

  normals_same : normals_at (bytes_of a) ≡ a.normals
  normals_same = rw (count_same, ← for_normals) (floats_back (bytes_of a) (normals_from a.header.count) a.normals k.normals normals_stand)

  before_classes : length (header_bytes a.header ++ floats_bytes a.positions ++ floats_bytes a.normals) ≡ classes_from a.header.count
  before_classes = rw (length-append, length-append, header_width a.header, floats_width a.positions, floats_width a.normals, for_positions, for_normals) (omega arith)

  classes_same : classes_at (bytes_of a) ≡ a.classes
  classes_same = rw count_same (drop_at (header_bytes a.header ++ floats_bytes a.positions ++ floats_bytes a.normals) a.classes (classes_from a.header.count) before_classes)

  pub loop_same : loop_at (bytes_of a) ≡ a
  loop_same = rw (header_same, positions_same, normals_same, classes_same)

  pub loop_width : length a.classes ≡ a.header.count → length (bytes_of a) ≡ loop_size a.header.count
  loop_width c = rw (length-append, before_classes, c) (omega arith)
