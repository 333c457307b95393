-- Texts written one after the other. Assumes nothing.
use Prim.Native.Nat.{ℕ}
use mathlib.Core.Path.{refl, sym}
use mathlib.Core.List.{List, [], ◌++◌}
use native.Mathlib.Nat.{add-zero}
use native.Mathlib.Omega.{arith}
use lib.ListN.{length-append}
use Rattle.wire.proofs.Bytes.{sets_sets}
use Rattle.scene_words.specs.Words.{Wrote}

-- nothing is written
pub nothing : {o : List ℕ} {at : ℕ} → Wrote o at [] o at
nothing = record { text_there = refl; next_offset = rw add-zero }

-- one text after the other
pub then : {o o' o'' a b : List ℕ} {at r r' : ℕ} → Wrote o at a o' r → Wrote o' r b o'' r' → Wrote o at (a ++ b) o'' r'
then {o} {a = a} {b = b} {at = at} {r = r} u v = record {
  text_there = rw (v.text_there, u.text_there) (sets_sets o a b at r (sym u.next_offset));
  next_offset = rw length-append (omega (arith, u.next_offset, v.next_offset));
}
