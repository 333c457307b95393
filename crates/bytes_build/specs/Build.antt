-- Building over bytes, and over floats with the header in bytes: the answer is the count of the loop that was written, 0 for empty and full (SCOPE 32, 33), and its mode is in its header (SCOPE 57).
-- SCOPE 34: 5 is judged by the size of a loop of n, the opened count or 0 below three. Definitions only.
use Rattle.std.specs.Prelude.{ℕ, ◌*◌, ◌/◌, ◌%◌, ◌≤◌, ◌≡◌, Bool, true, false, cond, List, [], length, take, eqb, ltb, Float, if◌then◌else◌, Result, Ok, Err}
use Rattle.std.proofs.lemmas.List.Edits.{sets}
use Rattle.laws.specs.Loop.{first}
use Rattle.judge.specs.declared.Refusal.{Refusal}
use Rattle.judge.specs.Refusals.{number}
use Rattle.minor_arc.specs.declared.Mode.{Mode}
use Rattle.loop_header.specs.declared.Header.{Header}
use Rattle.loop_header.specs.Loops.{empty_header}
use Rattle.loop_build.specs.Build.{list_fault, opened_count, Made, made}
use Rattle.loop_build.specs.Build as B
use Rattle.wire.specs.Wire.{vec_size, floats_at}
use Rattle.bytes_loop.specs.Outcome.{Outcome, outcome, refusal_of, outcome_by}
use Rattle.bytes_loop.specs.Layout.{header_size, loop_size, header_bytes, loop_bytes, corners_for}

-- the loop of a list: its header and its three lists
abbrev pub made_if : Bool → Mode → List Float → ℕ → Made
made_if true mode l n = record { header = empty_header mode; positions = []; normals = []; classes = [] }
made_if false mode l n = made mode l n [] [] []

unfoldable pub made_of : Mode → List Float → Made
made_of mode l = made_if (ltb (opened_count l) 3) mode l (opened_count l)

-- a loop in bytes
abbrev pub made_bytes : Made → List ℕ
made_bytes m = loop_bytes m.header m.positions m.normals m.classes

-- SCOPE 34: the corners that room is judged by
unfoldable pub corners : ℕ → ℕ
corners n = cond (ltb n 3) 0 n

unfoldable pub need_fault : ℕ → ℕ → ℕ
need_fault size n = cond (ltb size (loop_size (corners n))) 5 0

-- of a list of floats
unfoldable pub built_outcome : Mode → List Float → List ℕ → Outcome ℕ
built_outcome mode l out =
    outcome_by (first (list_fault l) (need_fault (length out) (opened_count l))) out
    (outcome (made_of mode l).header.count (sets out 0 (made_bytes (made_of mode l))))

-- of a list in bytes
abbrev pub list_at : List ℕ → List Float
list_at s = floats_at s 0 (length s / 8)

unfoldable pub build_outcome : Mode → List ℕ → List ℕ → Outcome ℕ
build_outcome mode s out = outcome_by (cond (eqb (length s % vec_size) 0) 0 1) out (built_outcome mode (list_at s) out)

-- with the header alone in bytes: what building leaves in the three slices, and its header
pub record FloatsOutcome : Type 0 where
  pub number : ℕ
  pub header : List ℕ
  pub positions : List Float
  pub normals : List Float
  pub classes : List ℕ

abbrev pub header_outcome : B.Told → List ℕ → Outcome ℕ
header_outcome (B.refused f) header = outcome (refusal_of f) header
header_outcome (B.loop h) header = outcome h.count (sets header 0 (header_bytes h))

abbrev pub out_outcome : B.Outcome → List ℕ → FloatsOutcome
out_outcome o header = record {
  number = (header_outcome o.answer header).number;
  header = (header_outcome o.answer header).out;
  positions = o.positions;
  normals = o.normals;
  classes = o.classes;
}

-- SCOPE 34: 5 where a slice is shorter than its part, or the header than its 88 bytes, after the list's own refusals
unfoldable pub floats_outcome : Mode → List Float → List ℕ → List Float → List Float → List ℕ → FloatsOutcome
floats_outcome mode l header ps ns cs = out_outcome (B.outcome_by (first (B.refusal l ps ns cs) (need_fault (length header) 0)) mode l ps ns cs) header

-- ---- inner
-- a count, or what is refused, as the number that is answered
abbrev pub number_told : Result ℕ Refusal → ℕ
number_told (Ok n) = n
number_told (Err r) = refusal_of (number r)

-- the refusal of a list whose header has no room
abbrev pub short_header : List Float → ℕ
short_header l = refusal_of (first (list_fault l) 5)

-- a count that four bytes hold
abbrev pub Counted : B.Told → Type 0
Counted (B.refused f) = Unit
Counted (B.loop h) = h.count ≤ 512

-- arrays of the room that bytes have
pub record Roomy (out positions normals classes : ℕ) : Type 0 where
  pub for_positions : positions ≡ 3 * corners_for out
  pub for_normals : normals ≡ 3 * corners_for out
  pub for_classes : classes ≡ corners_for out

-- a loop that fits where its header does
pub record Fitting (h : Header) (out positions normals classes : ℕ) : Type 0 where
  pub most : h.count ≤ 512
  pub within : header_size ≤ out → loop_size h.count ≤ out
  pub for_positions : 3 * h.count ≤ positions
  pub for_normals : 3 * h.count ≤ normals
  pub for_classes : h.count ≤ classes

abbrev pub front : Header → List Float → List Float → List ℕ → Made
front h ps ns cs = record { header = h; positions = take (3 * h.count) ps; normals = take (3 * h.count) ns; classes = take h.count cs }

unfoldable pub loop_outcome : Header → List Float → List Float → List ℕ → List ℕ → Outcome ℕ
loop_outcome h ps ns cs out = if ltb (length out) header_size then outcome (refusal_of 5) out else outcome h.count (sets out 0 (made_bytes (front h ps ns cs)))
