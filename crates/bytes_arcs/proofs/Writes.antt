-- What a call leaves of an answer: its bytes, or refusal 5 and the buffer as it was. Assumes nothing.
use Prim.Native.Nat.{ℕ, ◌*◌, ◌≤◌, ◌<◌}
use mathlib.Core.Path.{◌≡◌}
use mathlib.Core.List.{List, [], ◌∷◌, append_assoc, append-nil}
use native.Mathlib.Omega.{arith}
use lib.IntN.{pos}
use lib.ListN.{length}
use lib.Seq.{sets}
use borrow.Author.Tests.{lt-ltb, le-ltb}
use Rattle.vec3.specs.declared.Vec3.{Vec3}
use Rattle.wire.specs.Wire.{vec_bytes}
use Rattle.wire.proofs.Bytes.{three}
use Rattle.wire.proofs.Lays.{width}
use Rattle.arcs.specs.Answers.{answer}
use Rattle.bytes_loop.specs.Outcome.{outcome, refusal_of}
use Rattle.bytes_arcs.specs.Arcs.{value_bytes, leave}

-- ---- the values written one after the other
pub one_written : {x : List ℕ} (out : List ℕ) (v : Vec3) → x ≡ sets out 0 (vec_bytes v) → x ≡ sets out 0 (value_bytes (v ∷ []))
one_written out v e = rw append-nil e

pub three_written : {x y z : List ℕ} (out : List ℕ) (a b c : Vec3) → x ≡ sets out 0 (vec_bytes a) → y ≡ sets x 24 (vec_bytes b) → z ≡ sets y 48 (vec_bytes c) → z ≡ sets out 0 (value_bytes (a ∷ b ∷ c ∷ []))
three_written out a b c p q r = rw (append-nil, ← append_assoc (vec_bytes a) (vec_bytes b) (vec_bytes c)) (three out (vec_bytes a) (vec_bytes b) (vec_bytes c) 0 24 48 p q r (width a) (width b) (omega arith))

-- ---- room, or refusal 5
module _ (n : ℕ) (vs : List Vec3) (out : List ℕ) where
  pub no_room : {r : ℕ} → length out < 24 * length vs → r ≡ refusal_of 5 → outcome r out ≡ leave (answer (pos n) vs) out
  unfolding leave
  no_room h e = rw (lt-ltb _ _ h, e)

  pub room : {z : List ℕ} → 24 * length vs ≤ length out → z ≡ sets out 0 (value_bytes vs) → outcome n z ≡ leave (answer (pos n) vs) out
  unfolding leave
  room h e = rw (le-ltb _ _ h, e)
