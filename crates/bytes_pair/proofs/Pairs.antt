-- Two loops, each refused ahead of being copied or copied. Assumes nothing.
use Prim.Native.Nat.{ℕ, zero, suc}
use mathlib.Core.Path.{◌≡◌, refl, sym}
use mathlib.Core.List.{List}
use lib.Ieee.{Float}
use Rattle.laws.specs.Loop.{first}
use Rattle.loop_header.specs.declared.Header.{Header}
use Rattle.loop_header.specs.Loops.{loop_fault}
use Rattle.loop_ask.specs.Answers.{Told, refused, judged}
use Rattle.loop_ask.specs.Questions.{pair_fault, equivalent_answer}
use Rattle.loop_relate.specs.Relations.{relate_fault, relate_answer}
use Rattle.bytes_loop.specs.Layout.{header_at, positions_at, normals_at, classes_at, header_fault, frame_fault, copy_fault}
use Rattle.bytes_ask.proofs.Asks.{told_early, copies}
use Rattle.bytes_pair.specs.declared.Comparison.{Comparison}
use Rattle.bytes_pair.specs.declared.Comparison.TheVariants.{Relation, Equivalence}
use Rattle.bytes_pair.specs.Pair.{told_of, next_told, against_told, pair_told, no_pair}

-- ---- a loop's refusal is every answer's
module _ (h : Header) (ps ns : List Float) (cs : List ℕ) (o : Header) (qs ms : List Float) (ds : List ℕ) where
  first_refused_lem : (q : Comparison) {k : ℕ} → loop_fault h ps ns cs ≡ suc k → told_of q h ps ns cs o qs ms ds ≡ refused (suc k)
  unfolding relate_fault relate_answer equivalent_answer pair_fault
  first_refused_lem Relation e = rw e
  first_refused_lem Equivalence e = rw e

  second_refused : (q : Comparison) {k : ℕ} → loop_fault h ps ns cs ≡ 0 → loop_fault o qs ms ds ≡ suc k → told_of q h ps ns cs o qs ms ds ≡ refused (suc k)
  unfolding relate_fault relate_answer equivalent_answer pair_fault
  second_refused Relation z e = rw (z, e)
  second_refused Equivalence z e = rw (z, e)

  next_refused : (q : Comparison) (fault : ℕ) {k : ℕ} → loop_fault h ps ns cs ≡ suc k → next_told q h ps ns cs fault o qs ms ds ≡ refused (suc k)
  unfolding next_told
  next_refused q fault e = rw e

  judged_first : (q : Comparison) (f : ℕ) → loop_fault h ps ns cs ≡ f → judged (first f 0) (told_of q h ps ns cs o qs ms ds) ≡ told_of q h ps ns cs o qs ms ds
  judged_first q zero e = refl
  judged_first q (suc k) e = sym (first_refused_lem q e)

  -- the two ways of the second's own bytes
  pub second_fine : (q : Comparison) {fault : ℕ} → fault ≡ 0 → told_of q h ps ns cs o qs ms ds ≡ next_told q h ps ns cs fault o qs ms ds
  unfolding next_told
  second_fine q z = rw (z, judged_first q (loop_fault h ps ns cs) refl)

  pub second_wrong : (q : Comparison) (fault : ℕ) {g : ℕ} → (loop_fault h ps ns cs ≡ 0 → judged fault (told_of q h ps ns cs o qs ms ds) ≡ refused g)
      → no_pair h ps ns cs g ≡ next_told q h ps ns cs fault o qs ms ds
  unfolding next_told
  second_wrong q fault {g} w = at (loop_fault h ps ns cs) refl
    where
      at : (f : ℕ) → loop_fault h ps ns cs ≡ f → refused (first f g) ≡ judged (first f fault) (told_of q h ps ns cs o qs ms ds)
      at zero e = rw (w e)
      at (suc k) e = refl

-- ---- the first loop in bytes
module _ (q : Comparison) (a b : List ℕ) where
  pub first_early : (copy_fault a ≡ 0 → ⊥) → refused (copy_fault a) ≡ pair_told q a b
  first_early h =
      sym (told_early a (against_told q (header_at a) (positions_at a) (normals_at a) (classes_at a) b)
      (λ k. next_refused (header_at a) (positions_at a) (normals_at a) (classes_at a) (header_at b) (positions_at b) (normals_at b) (classes_at b) q (frame_fault b)) h)

  pub first_late : 0 ≡ copy_fault a → against_told q (header_at a) (positions_at a) (normals_at a) (classes_at a) b ≡ pair_told q a b
  first_late e = rw (copies a e refl).framed

-- ---- the second loop in bytes
module _ (q : Comparison) (h : Header) (ps ns : List Float) (cs b : List ℕ) where
  pub second_early : (copy_fault b ≡ 0 → ⊥) → no_pair h ps ns cs (copy_fault b) ≡ against_told q h ps ns cs b
  second_early g =
      second_wrong h ps ns cs (header_at b) (positions_at b) (normals_at b) (classes_at b) q (frame_fault b)
      (λ z. told_early b (told_of q h ps ns cs (header_at b) (positions_at b) (normals_at b) (classes_at b)) (λ k. second_refused h ps ns cs (header_at b) (positions_at b) (normals_at b) (classes_at b) q z) g)

  pub second_late : 0 ≡ copy_fault b → told_of q h ps ns cs (header_at b) (positions_at b) (normals_at b) (classes_at b) ≡ against_told q h ps ns cs b
  second_late e = second_fine h ps ns cs (header_at b) (positions_at b) (normals_at b) (classes_at b) q (copies b e refl).framed

-- ---- with the headers alone in bytes
was_refused : (k : ℕ) (t : Told) → (k ≡ 0 → ⊥) → judged k t ≡ refused k
was_refused zero t h = absurd (h refl)
was_refused (suc k) t h = refl

module _ (h : Header) (ps ns : List Float) (cs b : List ℕ) (qs ms : List Float) (ds : List ℕ) where
  pub other_wrong : (header_fault b ≡ 0 → ⊥) → no_pair h ps ns cs (header_fault b) ≡ next_told Relation h ps ns cs (header_fault b) (header_at b) qs ms ds
  other_wrong w = second_wrong h ps ns cs (header_at b) qs ms ds Relation (header_fault b) (λ z. was_refused (header_fault b) _ w)

  pub other_fine : 0 ≡ header_fault b → told_of Relation h ps ns cs (header_at b) qs ms ds ≡ next_told Relation h ps ns cs (header_fault b) (header_at b) qs ms ds
  other_fine z = second_fine h ps ns cs (header_at b) qs ms ds Relation (sym z)
