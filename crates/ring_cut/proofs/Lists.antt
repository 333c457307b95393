-- The list of the corners that are not convex while a ring is cut: the first k of `apart`. Assumes nothing.
use Prim.Native.Nat.{ℕ, ◌-◌, ◌≤◌}
use mathlib.Core.Path.{◌≡◌, refl, ◌∙◌}
use mathlib.Core.List.{List}
use native.Mathlib.Omega.{arith}
use lib.ListN.{length, take}
use lib.Seq.{take-length, length-take-le}
use Rattle.ring_reflex.specs.Apart.{apart_of}

pub record Listing (apart₀ ids classes apart : List ℕ) (m k : ℕ) : Type 0 where
  pub size : length apart ≡ length apart₀
  pub listed : take k apart ≡ apart_of (take m ids) classes
  pub few : k ≤ length apart
  pub sized : length (take k apart) ≡ k
  pub room : length (take m ids) ≤ length apart

pub list : {ids classes apart : List ℕ} {k : ℕ} → length ids ≤ length apart → (take k apart ≡ apart_of ids classes) × (k ≤ length ids)
    → Listing apart ids classes apart (length ids) k
list {ids} {classes} {apart} {k} r q = record {
  size = refl;
  listed = rw take-length q.0;
  few = omega (arith, q.1);
  sized = length-take-le k apart (omega (arith, q.1));
  room = rw take-length r;
}

-- after a cut that leaves `rest`
pub list_on : {apart₀ ids classes apart ids' classes' apart' rest : List ℕ} {m k k' : ℕ} → Listing apart₀ ids classes apart m k
    → take (m - 1) ids' ≡ rest → length (take (m - 1) ids') ≤ length (take m ids)
    → take k' apart' ≡ apart_of rest classes' → k' ≤ length apart → length apart' ≡ length apart → Listing apart₀ ids' classes' apart' (m - 1) k'
list_on {apart' = apart'} {k' = k'} g e s l f r = record {
  size = r ∙ g.size;
  listed = rw e l;
  few = omega arith;
  sized = length-take-le k' apart' (omega arith);
  room = omega (arith, g.room);
}
