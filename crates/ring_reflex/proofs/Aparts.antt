-- The corners left that are not convex: the list of them, and what it is after a cut. Assumes nothing.
use Prim.Native.Nat.{ℕ, zero, suc, ◌+◌, ◌≤◌, ◌<◌}
use mathlib.Core.Path.{◌≡◌, refl, sym, ap, ◌∙◌}
use mathlib.Core.Bool.{Bool, true, false, not, ◌||◌}
use mathlib.Core.List.{List, [], ◌∷◌, ◌++◌, append-nil}
use native.Mathlib.Omega.{arith}
use native.Mathlib.Numerals.{add-one}
use lib.Dec.{eqb}
use lib.Ieee.{Float}
use lib.ListN.{length, get_or, take, set, drop, length-set}
use lib.Seq.{split_at, take-suc, take-set-le, take-suc-set, take_all}
use Rattle.laws.specs.Loop.{any_of}
use Rattle.laws.proofs.Loops.{any_later}
use Rattle.ring_theory.specs.Ring.{Below, without}
use Rattle.vec3.specs.Vec.{pos_at}
use Rattle.ring_ears.specs.declared.Triangle.{Triangle}
use Rattle.ring_ears.specs.Ears.{Lent, Indexed, convex, triangle_at, blocks_if, blocks, blocked, ear}
use Rattle.ring_reflex.specs.Apart.{keep_if, past_if, apart_of, holds, held}

-- one more is listed, or passed over
ahead : (b : Bool) (k : ℕ) (l m : List ℕ) → keep_if b k (l ++ m) ≡ keep_if b k l ++ m
ahead true k l m = refl
ahead false k l m = refl

pub apart_append : (a b classes : List ℕ) → apart_of (a ++ b) classes ≡ apart_of a classes ++ apart_of b classes
unfolding apart_of
apart_append [] b classes = refl
apart_append (k ∷ a) b classes = rw (apart_append a b classes) (ahead (eqb (get_or classes k 0) 0) k (apart_of a classes) (apart_of b classes))

apart_one : (k : ℕ) (classes : List ℕ) → apart_of (k ∷ []) classes ≡ keep_if (eqb (get_or classes k 0) 0) k []
unfolding apart_of
apart_one k classes = refl

-- the same corners are convex
abbrev pub Alike : List ℕ → List ℕ → Type 0
Alike classes others = (k : ℕ) → eqb (get_or others k 0) 0 ≡ eqb (get_or classes k 0) 0

pub apart_alike : (ids classes others : List ℕ) → Alike classes others → apart_of ids others ≡ apart_of ids classes
unfolding apart_of
apart_alike [] classes others s = refl
apart_alike (k ∷ ids) classes others s = rw (s k, apart_alike ids classes others s)

-- without one that is convex
convex_first : (k : ℕ) (l classes : List ℕ) → eqb (get_or classes k 0) 0 ≡ true → apart_of (k ∷ l) classes ≡ apart_of l classes
unfolding apart_of
convex_first k l classes e = rw e

pub apart_without : (i : ℕ) (ids classes : List ℕ) → i < length ids → convex ids classes i ≡ true → apart_of (without i ids) classes ≡ apart_of ids classes
apart_without i ids classes h e =
    apart_append (take i ids) (drop (suc i) ids) classes
    ∙ ap (λ (l : List ℕ). apart_of (take i ids) classes ++ l) (sym (convex_first (get_or ids i 0) (drop (suc i) ids) classes e))
    ∙ sym (apart_append (take i ids) (get_or ids i 0 ∷ drop (suc i) ids) classes)
    ∙ ap (λ (l : List ℕ). apart_of l classes) (sym (split_at ids i 0 h))

-- each is one of the ring's
pub below_apart : {n : ℕ} (ids classes : List ℕ) → Below n ids → Below n (apart_of ids classes)
unfolding apart_of
below_apart [] classes b = λ j h. absurd (omega arith)
below_apart {n} (k ∷ ids) classes b = go (eqb (get_or classes k 0) 0) (apart_of ids classes) (below_apart ids classes (λ j h. b (suc j) (omega arith)))
  where
    go : (c : Bool) (l : List ℕ) → Below n l → Below n (keep_if c k l)
    go true l q j h = q j h
    go false l q zero h = b 0 (omega arith)
    go false l q (suc j) h = q j (omega arith)

-- there are no more than are left
length_apart : (ids classes : List ℕ) → length (apart_of ids classes) ≤ length ids
unfolding apart_of
length_apart [] classes = omega arith
length_apart (k ∷ ids) classes = go (eqb (get_or classes k 0) 0) (apart_of ids classes) (length_apart ids classes)
  where
    go : (c : Bool) (l : List ℕ) → length l ≤ length ids → length (keep_if c k l) ≤ suc (length ids)
    go true l h = omega arith
    go false l h = omega arith

-- one of the ring left blocks exactly if one of these does
pub blocked_apart : (ps : List Float) (ids classes : List ℕ) (t : Triangle) → blocked ps ids classes t ≡ held ps (apart_of ids classes) t
unfolding apart_of blocks holds any_of
blocked_apart ps [] classes t = refl
blocked_apart ps (k ∷ ids) classes t =
    ap (λ (b : Bool). blocks ps (k ∷ ids) classes t 0 || b) (any_later (blocks ps (k ∷ ids) classes t) (length ids) 0 ∙ blocked_apart ps ids classes t)
    ∙ go (eqb (get_or classes k 0) 0) (apart_of ids classes)
  where
    go : (c : Bool) (l : List ℕ) → blocks_if c (pos_at ps k) t || held ps l t ≡ held ps (keep_if c k l) t
    go true l = refl
    go false l = ap (λ (b : Bool). holds ps (k ∷ l) t 0 || b) (sym (any_later (holds ps (k ∷ l) t) (length l) 0))

module _ {ps : List Float} {ids classes apart : List ℕ} (l : Lent ps ids classes) (e : apart ≡ apart_of ids classes) where
  pub apart_lent : Below (length classes) apart
  apart_lent = rw e (below_apart ids classes l.below)

  pub apart_indexed : Indexed ps apart
  apart_indexed j h = omega (arith, apart_lent j h, l.whole)

  pub apart_few : length apart ≤ length ids
  apart_few = rw e (length_apart ids classes)

  blocked_by : (t : Triangle) → blocked ps ids classes t ≡ held ps apart t
  blocked_by t = rw e (blocked_apart ps ids classes t)

  -- a convex corner is an ear if none of the list is held, and so where the list is empty
  pub free : (i : ℕ) → convex ids classes i ≡ true → not (held ps apart (triangle_at ps ids i)) ≡ ear ps ids classes i
  unfolding ear
  free i c = rw (c, blocked_by (triangle_at ps ids i))

  pub free_none : (i : ℕ) → convex ids classes i ≡ true → length apart ≡ 0 → true ≡ ear ps ids classes i
  unfolding any_of
  free_none i c z = rw z at (free i c)

-- ---- the invariant of the loop that lists them: at index j there are k
pub record Listed (ids classes apart₀ apart : List ℕ) (k j : ℕ) : Type 0 where
  pub within : j ≤ length ids
  pub few : k ≤ j
  pub size : length apart ≡ length apart₀
  pub are : take k apart ≡ apart_of (take j ids) classes

pub listed : {ids classes apart : List ℕ} → Listed ids classes apart apart 0 0
unfolding apart_of
listed = record { within = omega arith; few = omega arith; size = refl; are = refl }

one_more : (b : Bool) (v k : ℕ) (l : List ℕ) → k < length l → take (past_if b k) (set l k v) ≡ take k l ++ keep_if b v []
one_more true v k l h = take-set-le k l k v (omega arith) ∙ sym (append-nil (take k l))
one_more false v k l h = rw add-one (take-suc-set l k v h)

past_le : (b : Bool) (k : ℕ) → past_if b k ≤ k + 1
past_le true k = omega arith
past_le false k = omega arith

module _ {ids classes apart₀ apart : List ℕ} {k j : ℕ} (s : Listed ids classes apart₀ apart k j) where
  pub listed_on : {apart' : List ℕ} {b : Bool} {k' : ℕ} → apart' ≡ set apart k (get_or ids j 0) → b ≡ convex ids classes j → k' ≡ past_if b k
      → j < length ids → length ids ≤ length apart₀ → Listed ids classes apart₀ apart' k' (j + 1)
  listed_on {apart'} {b} {k'} p q r h room =
      let v = get_or ids j 0 in
      record {
        within = omega arith;
        few = omega (arith, past_le b k, s.few);
        size = rw (p, length-set) s.size;
        are =
            rw (p, r, one_more b v k apart (omega (arith, s.few, s.size)), s.are, add-one j, take-suc ids j 0 h, apart_append (take j ids) (v ∷ []) classes, apart_one v classes, q);
      }

  pub listed_end : length ids ≤ j → (take k apart ≡ apart_of ids classes) × (k ≤ length ids)
  listed_end h = (rw (take_all j ids h) at s.are, omega (arith, s.few, s.within))
