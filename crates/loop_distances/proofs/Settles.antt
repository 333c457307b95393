-- A pass over a block: what is settled is taken in, and the others are listed, in order. Assumes nothing.
use Prim.Native.Nat.{ℕ, suc, ◌+◌, ◌-◌, ◌%◌, ◌≤◌, ◌<◌}
use mathlib.Core.Path.{◌≡◌, refl, sym, ap, ◌∙◌}
use mathlib.Core.Bool.{Bool, true, false}
use mathlib.Core.List.{List, [], ◌++◌, append_assoc, append-nil}
use native.Mathlib.Nat.{mod-eq_of_lt}
use native.Mathlib.Numerals.{add-one}
use native.Mathlib.Omega.{arith}
use lib.Ieee.{Float}
use lib.ListN.{length, take, set, length-set}
use lib.Seq.{take-set-le, take-suc-set}
use Rattle.laws.specs.Loop.{iterate}
use Rattle.laws.proofs.Loops.{left, none, Iterate, iterate_from, iterate_on, iterate_end}
use Rattle.vec3.specs.declared.Vec3.{Vec3}
use Rattle.vec3.specs.Vec.{pos_at}
use Rattle.chord_length.specs.declared.ChordLength.{ChordLength}
use Rattle.chord_length.specs.Chords.{least}
use Rattle.chord_length.specs.Chords as Chords
use Rattle.ring_edges.specs.Edges.{edge_at}
use Rattle.loop_distances.specs.Blocks.{settled_by, settled_at, taken_if, counted_if, listed_if, opens, settling, Passed}

-- one more is listed, or not
one_more : (b : Bool) (v k : ℕ) (l : List ℕ) → k < length l → take (counted_if b k) (set l k v) ≡ take k l ++ listed_if b v []
one_more true v k l h = take-set-le k l k v (omega arith) ∙ sym (append-nil (take k l))
one_more false v k l h = rw add-one (take-suc-set l k v h)

ahead : (b : Bool) (v : ℕ) (l : List ℕ) → listed_if b v [] ++ l ≡ listed_if b v l
ahead true v l = refl
ahead false v l = refl

counted_le : (b : Bool) (k : ℕ) → counted_if b k ≤ k + 1
counted_le true k = omega arith
counted_le false k = omega arith

opens_next : (s : ℕ → Bool) (k i : ℕ) → opens s (suc k) i ≡ listed_if (s i) i (opens s k (suc i))
unfolding opens
opens_next s k i = refl

opens_none : (s : ℕ → Bool) (i : ℕ) → opens s 0 i ≡ []
unfolding opens
opens_none s i = refl

module _ (ps ns : List Float) (n from to : ℕ) (p : Vec3) (before : ChordLength) where
  abbrev s : ℕ → Bool
  s = settled_at ps ns n p

  -- the invariant of the loop, at the edge i
  pub record Going (list₀ list : List ℕ) (r : ChordLength) (k : ℕ) (start : Vec3) (chord : ChordLength) (i : ℕ) : Type 0 where
    pub begun : from ≤ i
    pub within : i ≤ to
    pub start_is : start ≡ pos_at ps (i % n)
    pub chord_is : chord ≡ Chords.chord p (pos_at ps (i % n))
    pub least_is : Iterate (settling ps ns n p) to i r (iterate (settling ps ns n p) (to - from) from before)
    pub few : k ≤ i - from
    pub size : length list ≡ length list₀
    pub are : take k list ++ opens s (to - i) i ≡ opens s (to - from) from

  pub going : {list : List ℕ} {start : Vec3} {chord : ChordLength} → start ≡ pos_at ps from → chord ≡ Chords.chord p start → from < to → to ≤ n
      → Going list list before 0 start chord from
  going e g h l =
      let m : from % n ≡ from = mod-eq_of_lt (omega arith) in
      record {
        begun = omega arith;
        within = omega arith;
        start_is = rw m e;
        chord_is = rw m (g ∙ ap (Chords.chord p) e);
        least_is = iterate_from (omega arith) refl;
        few = omega arith;
        size = refl;
        are = refl;
      }

  module _ {list₀ list : List ℕ} {r : ChordLength} {k : ℕ} {start : Vec3} {chord : ChordLength} {i : ℕ} (w : Going list₀ list r k start chord i) (h : i < to) (l : to ≤ n) where
    here : i % n ≡ i
    here = mod-eq_of_lt (omega arith)

    pub going_on : {end normal : Vec3} {next : ChordLength} {b : Bool} {r' : ChordLength} {list' : List ℕ} {k' : ℕ}
        → end ≡ pos_at ps ((i + 1) % n) → normal ≡ pos_at ns i → next ≡ Chords.chord p end
        → b ≡ settled_by (record { start = start; end = end; normal = normal }) p chord next → r' ≡ taken_if b r (least chord next)
        → list' ≡ set list k i → k' ≡ counted_if b k → to ≤ from + length list₀ → Going list₀ list' r' k' end next (i + 1)
    unfolding edge_at
    going_on {end = end} {normal = normal} {next = next} {b = b} {r' = r'} {list' = list'} {k' = k'} e f g q t u v room =
        let start-here : start ≡ pos_at ps i = rw here at w.start_is in
        let chord-here : chord ≡ Chords.chord p (pos_at ps i) = rw here at w.chord_is in
        let next_is : next ≡ Chords.chord p (pos_at ps ((i + 1) % n)) = g ∙ ap (Chords.chord p) e in
        let b-is : b ≡ s i = simp (start-here, e, f, chord-here, next_is) at q in
        let k-small : k < length list = omega (arith, w.few, w.size, w.begun) in
        record {
          begun = omega (arith, w.begun);
          within = omega arith;
          start_is = e;
          chord_is = next_is;
          least_is = iterate_on w.least_is (t ∙ rw (chord-here, next_is, b-is)) h;
          few = omega (arith, w.few, counted_le b k, v, w.begun);
          size = rw (u, length-set) w.size;
          are =
              let rest = opens s (to - suc i) (suc i) in
              let now : take k list ++ listed_if (s i) i rest ≡ opens s (to - from) from = rw (left to i h, opens_next s (to - suc i) i) at w.are in
              rw (u, v, add-one i, one_more b i k list k-small, b-is) (append_assoc (take k list) (listed_if (s i) i []) rest ∙ rw (ahead (s i) i rest) now);
        }

  pub going_end : {list₀ list : List ℕ} {r : ChordLength} {k : ℕ} {start : Vec3} {chord : ChordLength} {i : ℕ} → Going list₀ list r k start chord i → to ≤ i → to ≤ from + length list₀
      → Passed ps ns n from to p before list (record { least = r; count = k })
  going_end {list = list} {k = k} {i = i} w h room = record {
    least_is = iterate_end w.least_is h;
    listed =
        let end : take k list ++ opens s (to - i) i ≡ opens s (to - from) from = w.are in
        sym (append-nil (take k list)) ∙ (rw (none to i h, opens_none s i) at end);
    few = omega (arith, w.few, w.within);
    size = rw w.size (omega arith);
  }
