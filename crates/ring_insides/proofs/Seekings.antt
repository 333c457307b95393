-- Means being found while a ring is cut: what holds where m corners are left and the means so far are f. Assumes nothing.
use Prim.Native.Nat.{ℕ, suc, ◌-◌, ◌≤◌, ◌<◌}
use mathlib.Core.Path.{◌≡◌, refl, sym, ap, ◌∙◌}
use mathlib.Core.Bool.{true, true≢false}
use mathlib.Core.List.{List, [], ◌∷◌, ◌++◌, append-nil}
use native.Mathlib.Omega.{arith}
use lib.Ieee.{Float}
use lib.ListN.{length, take, drop}
use lib.Seq.{take-length}
use Rattle.ring_theory.specs.Ring.{without, ear_of}
use Rattle.std.specs.Prelude.{Option, None, Some}
use Rattle.vec3.specs.declared.Vec3.{Vec3}
use Rattle.ring_ears.specs.Ears.{Lent, triangle_at, Remaining, cut_at, cut_in}
use Rattle.ring_reflex.specs.Lowest.{lowest}
use Rattle.ring_reflex.specs.Apart.{apart_of}
use Rattle.ring_insides.specs.declared.Found.{Found}
use Rattle.ring_insides.specs.declared.Found.TheVariants as F
use Rattle.ring_cut.specs.Cut.{whole_ring, cutting}
use Rattle.ring_insides.specs.Insides.{with_mean, is_both, mean_of, with_means, means_from, insides_from, insides_of}
use Rattle.ring_cut.proofs.Steps.{cutting_on, cutting_stuck, cutting_end, whole_three}
use Rattle.ring_cut.proofs.Lefts.{left, Held, hold, found, ids_left, cut_left, cut_held}
use Rattle.ring_cut.proofs.Lists.{Listing, list, list_on}

means_none : (ps : List Float) (f : Found) → with_means ps f [] ≡ f
unfolding with_means
means_none ps f = refl

means_ear : (ps : List Float) (f : Found) (ids rest : List ℕ) (i : ℕ)
    → with_means ps f (ear_of ids i ++ rest) ≡ with_means ps (with_mean f (mean_of (triangle_at ps ids i))) rest
unfolding with_means
means_ear ps f ids rest i = refl

-- two are enough
both_stay : (a b : _) (p : Option Vec3) → with_mean (F.Both a b) p ≡ F.Both a b
both_stay a b None = refl
both_stay a b (Some p) = refl

enough : (ps : List Float) (a b : _) (l : List ℕ) → with_means ps (F.Both a b) l ≡ F.Both a b
unfolding with_means
enough ps a b [] = refl
enough ps a b (x ∷ []) = refl
enough ps a b (x ∷ y ∷ []) = refl
enough ps a b (x ∷ y ∷ z ∷ l) = rw (both_stay a b _) (enough ps a b l)

stays : (ps : List Float) (f : Found) (l : List ℕ) → is_both f ≡ true → with_means ps f l ≡ f
stays ps F.Nothing l e = absurd (true≢false (sym e))
stays ps (F.One a) l e = absurd (true≢false (sym e))
stays ps (F.Both a b) l e = enough ps a b l

pub record Seeking (ps : List Float) (ids₀ classes₀ apart₀ ids classes apart : List ℕ) (k m : ℕ) (f : Found) : Type 0 where
  pub held : Held ps ids₀ classes₀ ids classes m
  pub listing : Listing apart₀ ids classes apart m k
  pub rest : means_from ps (record { ids = ids₀; classes = classes₀ }) ≡ with_means ps f (cutting ps (m - 3) (left ids classes m)).triangles

pub begin : {ps : List Float} {ids classes apart : List ℕ} {k : ℕ} → Lent ps ids classes → 3 ≤ length ids → length ids ≤ length apart
    → (take k apart ≡ apart_of ids classes) × (k ≤ length ids) → Seeking ps ids classes apart ids classes apart k (length ids) F.Nothing
begin l h a q = record { held = hold l h; listing = list a q; rest = rw take-length }

module _ {ps : List Float} {ids₀ classes₀ apart₀ ids classes apart : List ℕ} {k m : ℕ} {f : Found} (g : Seeking ps ids₀ classes₀ apart₀ ids classes apart k m f) where
  module _ {i : ℕ} (more : 3 < m) (e : i ≡ lowest ps (take m ids) classes) where
    one_less : m - 3 ≡ suc (m - 1 - 3)
    one_less = omega arith

    pub stuck : i ≡ m → f ≡ means_from ps (record { ids = ids₀; classes = classes₀ })
    stuck q =
        let h : length (take m ids) ≤ i = rw (g.held.sized, q) (omega arith) in
        sym (g.rest ∙ rw (one_less, cutting_stuck ps (m - 1 - 3) (left ids classes m) e h) (means_none ps f))

    -- with the mean of this iteration
    module _ {f' : Found} (ne : i ≡ m → ⊥) (u : f' ≡ with_mean f (mean_of (triangle_at ps (take m ids) i))) where
      on : means_from ps (record { ids = ids₀; classes = classes₀ }) ≡ with_means ps f' (cutting ps (m - 1 - 3) (cut_at ps (left ids classes m) i)).triangles
      on =
          let h : i < length (take m ids) = rw g.held.sized (found g.held e ne) in
          g.rest ∙ rw (one_less, cutting_on ps (m - 1 - 3) (left ids classes m) e h, u) (means_ear ps f (take m ids) (cutting ps (m - 1 - 3) (cut_at ps (left ids classes m) i)).triangles i)

      pub both : is_both f' ≡ true → f' ≡ means_from ps (record { ids = ids₀; classes = classes₀ })
      both b = sym (on ∙ stays ps f' _ b)

      module _ {ids' classes' part : List ℕ} (q : ids' ≡ part ++ drop m ids) (p : record { ids = part; classes = classes' } ≡ cut_in ps (left ids classes m) i)
          (kept : length part ≡ length (take m ids)) (also : length classes' ≡ length classes) where
        pub cut : {apart' : List ℕ} {k' : ℕ} → take k' apart' ≡ apart_of (without i (take m ids)) classes' → k' ≤ length apart → length apart' ≡ length apart
            → Seeking ps ids₀ classes₀ apart₀ ids' classes' apart' k' (m - 1) f'
        cut l o r =
            let h = found g.held e ne in
            let size = (cut_held g.held h more q p kept also).sized in
            record {
              held = cut_held g.held h more q p kept also;
              listing = list_on g.listing (ids_left g.held h more q p kept also) (omega (arith, g.held.sized, size)) l o r;
              rest = rw (cut_left g.held h more q p kept also) on;
            }

  -- the mean of the last triangle
  pub finish : {f' : Found} → m ≤ 3 → f' ≡ with_mean f (mean_of (triangle_at ps (take m ids) 1)) → f' ≡ means_from ps (record { ids = ids₀; classes = classes₀ })
  finish {f'} h u =
      let none : m - 3 ≡ 0 = omega arith in
      let three : length (take m ids) ≡ 3 = g.held.sized ∙ omega (arith, g.held.least) in
      let last : with_means ps f (take m ids) ≡ f' =
      ap (λ (l : List ℕ). with_means ps f l) (sym (whole_three (take m ids) three) ∙ sym (append-nil _)) ∙ means_ear ps f (take m ids) [] 1 ∙ means_none ps _ ∙ sym u in
      sym (g.rest ∙ rw (none, cutting_end ps (left ids classes m)) last)

-- from the whole ring on
pub of_whole : (ps : List Float) (classes : List ℕ) {s : Remaining} {f : Found} {r : Option (Vec3 × Vec3)} → s ≡ whole_ring classes → f ≡ means_from ps s
    → r ≡ insides_from f → r ≡ insides_of ps classes
of_whole ps classes {s} {f} e p q = q ∙ ap (λ (f : Found). insides_from f) p ∙ ap (λ (s : Remaining). insides_from (means_from ps s)) e
