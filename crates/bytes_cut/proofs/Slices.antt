-- Triangles in bytes. Assumes nothing.
use Prim.Native.Nat.{ℕ, zero, suc, ◌-◌, ◌*◌, ◌≤◌, ◌<◌}
use mathlib.Core.Path.{◌≡◌, refl, sym, ap, ◌∙◌, subst}
use mathlib.Core.Bool.{Bool, true, false}
use mathlib.Core.List.{List, ◌∷◌, ◌++◌}
use native.Mathlib.Omega.{arith}
use native.Mathlib.Nat.{not-suc-le-zero}
use lib.ListN.{length, take, drop, replicate}
use lib.Dec.{ltb}
use lib.Ieee.{Float}
use borrow.Author.Tests.{lt-ltb, le-ltb}
use Rattle.laws.specs.Loop.{first}
use Rattle.laws.proofs.Copies.{first_of_lem}
use Rattle.ring_cut.specs.Cut as C
use Rattle.judge.specs.declared.Refusal.{Refusal}
use Rattle.judge.specs.Refusals.{number}
use Rattle.judge.proofs.Numbers.{not_none}
use Rattle.loop_header.specs.declared.State.{State}
use Rattle.loop_header.specs.declared.State.TheVariants.{Empty, Full, Ring}
use Rattle.loop_header.specs.declared.Header.{Header}
use Rattle.loop_header.specs.Loops.{cut_fault}
use Rattle.loop_header.proofs.Sounds.{cuttable}
use Rattle.loop_ask.specs.Answers.{Told, answer}
use Rattle.icosahedron.specs.Table.{triples}
use Rattle.loop_triangles.specs.Triangles as T
use Rattle.bytes_loop.specs.Outcome.{Outcome, outcome, refusal_of, outcome_by}
use Rattle.bytes_loop.specs.Layout.{count_at, state_byte, state_of, header_at, positions_at, classes_at, header_fault, frame_fault, large_fault, many_fault, copy_fault, Array}
use Rattle.bytes_loop.proofs.Faults.{frame_size}
use Rattle.bytes_loop.proofs.Parts.{positions_length, classes_length}
use Rattle.bytes_ask.specs.Ask.{number_of}
use Rattle.bytes_ask.proofs.Asks.{cut_large, is_large, large_is, copies}
use Rattle.bytes_cut.specs.Cut.{triples_of, told_outcome, out_outcome, blank, cut_outcome, room_fault, parts_outcome, triangles_outcome, numbers_outcome, floats_outcome, Small}

-- ---- a count of triangles is small
module _ (ps : List Float) (cs t : List ℕ) (h : length cs ≤ 512) where
  full_small : (b : Bool) (l : List ℕ) → Small (T.roomy b t (T.outcome (answer 20) l)).answer
  full_small true l = tt
  full_small false l = omega arith

  ring_small : (b : Bool) (o : C.Outcome) → Small (T.roomy b t (T.laid o (length cs - 2))).answer
  ring_small true o = tt
  ring_small false o = at o.answer
    where
      at : (b : Bool) → Small (T.cut_told b (length cs - 2))
      at true = omega arith
      at false = tt

  state_small : (s : State) → Small (T.state_outcome s ps cs t).answer
  unfolding T.full_outcome T.ring_outcome
  state_small Empty = omega arith
  state_small Full = full_small (ltb (length t) 60) (triples ++ drop 60 t)
  state_small Ring = ring_small (ltb (length t) (3 * (length cs - 2))) (C.cut_ring_outcome ps cs t)

small_by : (h : Header) (ps : List Float) (cs t : List ℕ) (k : ℕ) → cut_fault h ps cs ≡ k → Small (T.outcome_by k t (T.state_outcome h.state ps cs t)).answer
small_by h ps cs t zero e =
    let d = cuttable h ps cs e in
    state_small ps cs t (omega (arith, d.most, d.shaped.classes)) h.state
small_by h ps cs t (suc k) e = tt

pub counted : (h : Header) (ps : List Float) (cs t : List ℕ) {u : Told} {l : List ℕ} → record { answer = u; triangles = l } ≡ T.triangulate_outcome h ps cs t → Small u
unfolding T.triangulate_outcome
counted h ps cs t {u} e = subst (λ (x : Told). Small x) (sym (ap (λ (o : T.Outcome). o.answer) e)) (small_by h ps cs t (cut_fault h ps cs) refl)

-- ---- what is left
pub slid : {o : T.Outcome} {u : Told} {l : List ℕ} {x : Outcome ℕ} (out : List ℕ) → record { answer = u; triangles = l } ≡ o → x ≡ told_outcome u l out → x ≡ out_outcome o out
slid out e q = q ∙ ap (λ (o : T.Outcome). out_outcome o out) e

take_same : {A : Type 0} (a : A) (k m : ℕ) → k ≤ m → take k (replicate m a) ≡ replicate k a
take_same a zero m h = refl
take_same a (suc k) zero h = absurd (not-suc-le-zero h)
take_same a (suc k) (suc m) h = ap (λ (l : List _). a ∷ l) (take_same a k m (omega arith))

pub front_blank : (m : ℕ) {k : ℕ} → k ≤ m → take {A = ℕ} k (replicate m 0) ≡ blank k
unfolding blank
front_blank m {k} h = take_same 0 k m h

module _ (h : Header) (ps : List Float) (cs out : List ℕ) where
  pub parts_refused : (r : Refusal) → number r ≡ cut_fault h ps cs → outcome (refusal_of (number r)) out ≡ parts_outcome h ps cs out
  unfolding parts_outcome
  parts_refused r e = rw (← e)

  module _ (z : 0 ≡ cut_fault h ps cs) where
    pub few : h.count ≤ 512
    few = (cuttable h ps cs (sym z)).most

    module _ {m : ℕ} (t : m ≡ triples_of h) where
      pub no_room : length out < 6 * m → outcome (refusal_of 5) out ≡ parts_outcome h ps cs out
      unfolding parts_outcome room_fault
      no_room g = rw (← z, ← t, lt-ltb _ _ g)

      pub roomy : {l : List ℕ} {x : Outcome ℕ} → 6 * m ≤ length out → l ≡ blank (3 * m) → x ≡ cut_outcome h ps cs l out → x ≡ parts_outcome h ps cs out
      unfolding parts_outcome room_fault
      roomy g b q = rw (← z, ← t, le-ltb _ _ g, ← b) q

-- ---- a loop in bytes
bytes_large : (s : List ℕ) → frame_fault s ≡ 0 → 512 < count_at s → cut_fault (header_at s) (positions_at s) (classes_at s) ≡ large_fault (state_of (state_byte s))
bytes_large s e g = cut_large (header_at s) (positions_at s) (classes_at s) g (positions_length s) (classes_length s (frame_size s e))

pub early : (s out : List ℕ) (r : Refusal) → number r ≡ copy_fault s → outcome (refusal_of (number r)) out ≡ triangles_outcome s out
unfolding triangles_outcome copy_fault
early s out r e = at (frame_fault s) refl e
  where
    at : (k : ℕ) → frame_fault s ≡ k → number r ≡ first k (many_fault s) → outcome (refusal_of (number r)) out ≡ outcome_by k out (parts_outcome (header_at s) (positions_at s) (classes_at s) out)
    at (suc k) a b = rw b
    at zero a b =
        let g = is_large s (λ z. not_none r (b ∙ z)) in
        parts_refused (header_at s) (positions_at s) (classes_at s) out r (b ∙ large_is s g ∙ sym (bytes_large s a g))

module _ (s : List ℕ) (z : 0 ≡ copy_fault s) where
  pub array : {n a : ℕ} → n ≡ count_at s → a ≡ 3 * n → Array s a
  array q a = let d = copies s z refl in record { size = d.size; for_positions = rw (← q) a }

  pub late : (out : List ℕ) {x : Outcome ℕ} → x ≡ parts_outcome (header_at s) (positions_at s) (classes_at s) out → x ≡ triangles_outcome s out
  unfolding triangles_outcome
  late out t = rw (copies s z refl).framed t

-- ---- with the header alone in bytes
module _ (s : List ℕ) (ps : List Float) (cs out : List ℕ) where
  pub header_refused : (r : Refusal) → number r ≡ header_fault s → outcome (refusal_of (number r)) out ≡ floats_outcome s ps cs out
  unfolding floats_outcome
  header_refused r e = rw (← e)

  pub numbered : {h : Header} {u : Told} {l : List ℕ} → 0 ≡ header_fault s → h ≡ header_at s → record { answer = u; triangles = l } ≡ T.triangulate_outcome h ps cs out → outcome (number_of u) l ≡ floats_outcome s ps cs out
  unfolding floats_outcome
  numbered z p q = rw (← z, ← p) (ap numbers_outcome q)

pub triples_size : (w m : ℕ) {t : ℕ} → 3 * m ≤ w → m ≡ t → length (take {A = ℕ} (3 * m) (replicate w 0)) ≡ 3 * t
triples_size w m h e = first_of_lem w 0 h ∙ ap (λ (k : ℕ). 3 * k) e
