-- A ring under the knife: what holds after t cuts, where m corners are left. Assumes nothing.
use Prim.Native.Nat.{ℕ, suc, ◌+◌, ◌-◌, ◌*◌, ◌≤◌, ◌<◌}
use mathlib.Core.Path.{◌≡◌, refl, ap, ◌∙◌}
use mathlib.Core.Bool.{true, false}
use mathlib.Core.List.{List, [], ◌++◌, append_assoc, append-nil}
use native.Mathlib.Omega.{arith}
use lib.Ieee.{Float}
use lib.ListN.{length, take, drop, length-append, length-drop}
use lib.Seq.{sets, sets-eq, length-sets, take_at, take-length, drop_at, drop-drop}
use Rattle.ring_theory.specs.Ring.{without, ear_of}
use Rattle.ring_ears.specs.Ears.{Lent, cut_at, cut_in}
use Rattle.ring_reflex.specs.Lowest.{lowest}
use Rattle.ring_reflex.specs.Apart.{apart_of}
use Rattle.ring_cut.specs.Cut.{Cutting, ahead, cutting, cutting_from, laid}
use Rattle.ring_cut.proofs.Steps.{cutting_on, cutting_stuck, cutting_end, whole_three}
use Rattle.ring_cut.proofs.Lefts.{left, Held, hold, found, ids_left, cut_left, cut_held}
use Rattle.ring_cut.proofs.Lists.{Listing, list, list_on}

-- the triples after one more
lay : (t : ℕ) (done rest v : List ℕ) → length done ≡ 3 * t → length v ≡ 3 → 3 * (t + 1) ≤ length rest
    → sets (done ++ drop (3 * t) rest) (3 * t) v ≡ (done ++ v) ++ drop (3 * (t + 1)) rest
lay t done rest v d e h =
    let l = done ++ drop (3 * t) rest in
    let n : 3 * (t + 1) ≡ 3 * t + 3 = omega arith in
    let size : 3 * t + length v ≤ length l = rw (length-append, d, e, length-drop) (omega arith) in
    rw (sets-eq v l (3 * t) size, take_at done (drop (3 * t) rest) (3 * t) d, e, ← drop-drop 3 (3 * t) l, drop_at done (drop (3 * t) rest) (3 * t) d, drop-drop 3 (3 * t) rest, n)

ahead_ahead : (a b : List ℕ) (c : Cutting) → ahead a (ahead b c) ≡ ahead (a ++ b) c
ahead_ahead a b c = rw append_assoc

pub record Going (ps : List Float) (ids₀ classes₀ apart₀ tris₀ ids classes apart tris : List ℕ) (k m t : ℕ) : Type 0 where
  pub held : Held ps ids₀ classes₀ ids classes m
  pub listing : Listing apart₀ ids classes apart m k
  pub count : m + t ≡ length ids₀
  pub room : 3 * (length ids₀ - 2) ≤ length tris₀
  pub done : List ℕ
  pub done_size : length done ≡ 3 * t
  pub tris_are : tris ≡ done ++ drop (3 * t) tris₀
  pub tris_size : length tris ≡ length tris₀
  pub rest : cutting_from ps (record { ids = ids₀; classes = classes₀ }) ≡ ahead done (cutting ps (m - 3) (left ids classes m))

pub begin : {ps : List Float} {ids classes apart tris : List ℕ} {k : ℕ} → Lent ps ids classes → 3 ≤ length ids → 3 * (length ids - 2) ≤ length tris → length ids ≤ length apart
    → (take k apart ≡ apart_of ids classes) × (k ≤ length ids) → Going ps ids classes apart tris ids classes apart tris k (length ids) 0
begin {ids = ids} l h r a q = record {
  held = hold l h;
  listing = list a q;
  count = omega arith;
  room = r;
  done = [];
  done_size = refl;
  tris_are = refl;
  tris_size = refl;
  rest = rw take-length;
}

module _ {ps : List Float} {ids₀ classes₀ apart₀ tris₀ ids classes apart tris : List ℕ} {k m t : ℕ} (g : Going ps ids₀ classes₀ apart₀ tris₀ ids classes apart tris k m t) where
  -- an iteration
  module _ {i : ℕ} (more : 3 < m) (e : i ≡ lowest ps (take m ids) classes) where
    one_less : m - 3 ≡ suc (m - 1 - 3)
    one_less = omega arith

    pub stuck : i ≡ m → record { answer = false; out = tris } ≡ laid (cutting_from ps (record { ids = ids₀; classes = classes₀ })) tris₀
    stuck q =
        let h : length (take m ids) ≤ i = rw (g.held.sized, q) (omega arith) in
        rw (g.rest, one_less, cutting_stuck ps (m - 1 - 3) (left ids classes m) e h, append-nil, g.done_size) (ap (λ (l : List ℕ). record { answer = false; out = l }) g.tris_are)

    -- what the calls of an iteration leave
    module _ {ids' classes' tris' part : List ℕ} (ne : i ≡ m → ⊥) (q : ids' ≡ part ++ drop m ids) (p : record { ids = part; classes = classes' } ≡ cut_in ps (left ids classes m) i)
        (u : tris' ≡ sets tris (3 * t) (ear_of (take m ids) i)) (kept : length part ≡ length (take m ids)) (also : length classes' ≡ length classes) where
      pub cut : {apart' : List ℕ} {k' : ℕ} → take k' apart' ≡ apart_of (without i (take m ids)) classes' → k' ≤ length apart → length apart' ≡ length apart
          → Going ps ids₀ classes₀ apart₀ tris₀ ids' classes' apart' tris' k' (m - 1) (t + 1)
      cut l f r =
          let h = found g.held e ne in
          let v = ear_of (take m ids) i in
          let p' : i < length (take m ids) = rw g.held.sized h in
          record {
            held = cut_held g.held h more q p kept also;
            listing = list_on g.listing (ids_left g.held h more q p kept also) (omega (arith, g.held.sized, (cut_held g.held h more q p kept also).sized)) l f r;
            count = omega (arith, g.count);
            room = g.room;
            done = g.done ++ v;
            done_size = rw (length-append, g.done_size) (omega arith);
            tris_are = rw (u, g.tris_are) (lay t g.done tris₀ v g.done_size refl (omega (arith, g.room, g.count)));
            tris_size = rw (u, length-sets) g.tris_size;
            rest = g.rest ∙ rw (one_less, cutting_on ps (m - 1 - 3) (left ids classes m) e p', cut_left g.held h more q p kept also) (ahead_ahead g.done v (cutting ps (m - 1 - 3) (cut_at ps (left ids classes m) i)));
          }

  -- three are left, and are the last triangle
  pub finish : {tris' : List ℕ} → m ≤ 3 → tris' ≡ sets tris (3 * t) (ear_of (take m ids) 1)
      → record { answer = true; out = tris' } ≡ laid (cutting_from ps (record { ids = ids₀; classes = classes₀ })) tris₀
  finish {tris'} h u =
      let three : m ≡ 3 = omega (arith, g.held.least) in
      let none : m - 3 ≡ 0 = omega arith in
      let size : length (g.done ++ take m ids) ≡ 3 * (t + 1) = rw (length-append, g.done_size, g.held.sized) (omega arith) in
      let are : tris' ≡ (g.done ++ take m ids) ++ drop (3 * (t + 1)) tris₀ =
      u ∙ ap (λ (v : List ℕ). sets tris (3 * t) v) (whole_three (take m ids) (g.held.sized ∙ three))
      ∙ rw g.tris_are (lay t g.done tris₀ (take m ids) g.done_size (g.held.sized ∙ three) (omega (arith, g.room, g.count))) in
      rw (g.rest, none, cutting_end ps (left ids classes m), size) (ap (λ (l : List ℕ). record { answer = true; out = l }) are)
