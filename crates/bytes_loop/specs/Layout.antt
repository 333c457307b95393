-- SCOPE 32: a loop in bytes: 88 of a header, 24n of positions, 24n of normals, n of classes; marks above 15 and the four zero bytes are passed over.
-- SCOPE 34: a state byte above 2 or a length that does not agree is refusal 1. Definitions only.
use Rattle.std.specs.Prelude.{ℕ, ◌+◌, ◌-◌, ◌*◌, ◌/◌, ◌%◌, ◌≤◌, ◌≡◌, Bool, true, false, cond, List, [], ◌∷◌, Option, None, Some, is_some, unwrap_or, ◌++◌, length, get_or, drop, eqb, ltb, Float, if◌then◌else◌}
use Rattle.laws.specs.Loop.{first}
use Rattle.vec3.specs.declared.Vec3.{Vec3}
use Rattle.vec3.specs.Vec.{origin}
use Rattle.chord_length.specs.Chords.{squared}
use Rattle.cap.specs.declared.Cap.{Cap}
use Rattle.minor_arc.specs.declared.Mode.{Mode}
use Rattle.minor_arc.specs.declared.Mode.TheVariants.{Plain, Long}
use Rattle.loop_header.specs.declared.State.{State}
use Rattle.loop_header.specs.declared.State.TheVariants.{Empty, Full, Ring}
use Rattle.loop_header.specs.declared.Header.{Header}
use Rattle.loop_header.specs.Loops as L
use Rattle.wire.specs.Wire.{u16_of, float_of, vec_of, floats_at, bytes2, float_bytes, vec_bytes, floats_bytes}

-- ---- sizes and places, of n corners
abbrev pub header_size : ℕ
header_size = 88

abbrev pub normals_from : ℕ → ℕ
normals_from n = header_size + 24 * n

abbrev pub classes_from : ℕ → ℕ
classes_from n = header_size + 48 * n

abbrev pub loop_size : ℕ → ℕ
loop_size n = header_size + 49 * n

-- ---- the header as it is read
abbrev pub count_at : List ℕ → ℕ
count_at s = u16_of s 0

abbrev pub state_byte : List ℕ → ℕ
state_byte s = get_or s 2 0

abbrev pub marks_at : List ℕ → ℕ
marks_at s = get_or s 3 0

unfoldable pub state_of : ℕ → State
state_of code = if eqb code 0 then Empty else (if eqb code 1 then Full else Ring)

-- of a mark, which is a power of two
abbrev pub marked : ℕ → ℕ → Bool
marked marks mark = eqb (marks / mark % 2) 1

abbrev pub cap_at : List ℕ → Cap
cap_at s = record { centre = vec_of s 8; radius = squared (float_of s 32) }

-- SCOPE 32: insides are there where mark 4 says so, judged and used whatever the count and state; otherwise bytes 40 to 87 are not looked at
unfoldable pub insides_at : List ℕ → Option (Vec3 × Vec3)
insides_at s = if marked (marks_at s) 4 then Some (vec_of s 40, vec_of s 64) else None

-- SCOPE 57: mark 8 says long
abbrev pub mode_of : Bool → Mode
mode_of true = Long
mode_of false = Plain

abbrev pub header_at : List ℕ → Header
header_at s = record {
  count = count_at s;
  state = state_of (state_byte s);
  cap = cap_at s;
  insides = insides_at s;
  reversed = marked (marks_at s) 1;
  weak = marked (marks_at s) 2;
  mode = mode_of (marked (marks_at s) 8);
}

-- ---- the rest of a loop
abbrev pub positions_at : List ℕ → List Float
positions_at s = floats_at s header_size (3 * count_at s)

abbrev pub normals_at : List ℕ → List Float
normals_at s = floats_at s (normals_from (count_at s)) (3 * count_at s)

abbrev pub classes_at : List ℕ → List ℕ
classes_at s = drop (classes_from (count_at s)) s

-- ---- SCOPE 34: refusal 1 of bytes, ahead of what the loop itself is refused for
unfoldable pub state_fault : List ℕ → ℕ
state_fault s = cond (ltb 2 (state_byte s)) 1 0

-- a slice that has to have a length
unfoldable pub size_fault : ℕ → ℕ → ℕ
size_fault size n = cond (eqb size n) 0 1

-- a header that comes by itself has 88 bytes
unfoldable pub header_fault : List ℕ → ℕ
header_fault s = first (size_fault (length s) header_size) (state_fault s)

unfoldable pub frame_fault : List ℕ → ℕ
frame_fault s = first (size_fault (length s) (loop_size (count_at s))) (state_fault s)

-- ---- what cannot be copied into work arrays. SCOPE 25: a count above 512 is 2, or 1 where it does not fit its state
abbrev pub large_fault : State → ℕ
large_fault Empty = 1
large_fault Full = 1
large_fault Ring = 2

unfoldable pub many_fault : List ℕ → ℕ
many_fault s = cond (ltb 512 (count_at s)) (large_fault (state_of (state_byte s))) 0

unfoldable pub copy_fault : List ℕ → ℕ
copy_fault s = first (frame_fault s) (many_fault s)

-- ---- SCOPE 32: the bytes of a loop
abbrev pub state_code : State → ℕ
state_code = L.state_code

unfoldable pub mark_if : Bool → ℕ → ℕ
mark_if b mark = cond b mark 0

-- absent insides are two vectors of zeros
abbrev pub first_inside : Option (Vec3 × Vec3) → Vec3
first_inside i = (unwrap_or i (origin, origin)).0

abbrev pub second_inside : Option (Vec3 × Vec3) → Vec3
second_inside i = (unwrap_or i (origin, origin)).1

abbrev pub is_long : Mode → Bool
is_long Plain = false
is_long Long = true

-- SCOPE 57: 1 reversed, 2 weak, 4 insides, 8 long
abbrev pub marks_of : Header → ℕ
marks_of h = mark_if h.reversed 1 + mark_if h.weak 2 + mark_if (is_some h.insides) 4 + mark_if (is_long h.mode) 8

abbrev pub front_bytes : ℕ → ℕ → ℕ → List ℕ
front_bytes count code marks = bytes2 count ++ (code ∷ marks ∷ 0 ∷ 0 ∷ 0 ∷ 0 ∷ [])

abbrev pub cap_bytes : Cap → List ℕ
cap_bytes c = vec_bytes c.centre ++ float_bytes c.radius.0

abbrev pub insides_bytes : Option (Vec3 × Vec3) → List ℕ
insides_bytes i = vec_bytes (first_inside i) ++ vec_bytes (second_inside i)

unfoldable pub header_bytes : Header → List ℕ
header_bytes h = front_bytes h.count (state_code h.state) (marks_of h) ++ cap_bytes h.cap ++ insides_bytes h.insides

abbrev pub loop_bytes : Header → List Float → List Float → List ℕ → List ℕ
loop_bytes h ps ns cs = header_bytes h ++ floats_bytes ps ++ floats_bytes ns ++ cs

-- ---- inner
-- the corners that bytes of a size have room for
unfoldable pub corners_for : ℕ → ℕ
corners_for size = if ltb size header_size then 0 else (if ltb 512 ((size - header_size) / 49) then 512 else (size - header_size) / 49)

-- a loop in bytes whose length agrees, with an array of the size of its positions
pub record Array (s : List ℕ) (positions : ℕ) : Type 0 where
  pub size : length s ≡ loop_size (count_at s)
  pub for_positions : positions ≡ 3 * count_at s

-- and with one for its normals too
pub record Arrays (s : List ℕ) (positions normals : ℕ) : Type 0 where
  pub size : length s ≡ loop_size (count_at s)
  pub for_positions : positions ≡ 3 * count_at s
  pub for_normals : normals ≡ 3 * count_at s

-- the parts of a loop, and room for them in bytes
pub record Parts (h : Header) (out positions normals classes : ℕ) : Type 0 where
  pub room : loop_size h.count ≤ out
  pub for_positions : positions ≡ 3 * h.count
  pub for_normals : normals ≡ 3 * h.count
  pub for_classes : classes ≡ h.count
