-- What an answer of `relate` says of the two loops, of a mute one and of a weak one too, in both modes. Assumes nothing.
use Prim.Native.Nat.{ℕ, zero, suc, ◌≤◌, ◌<◌}
use mathlib.Core.Path.{◌≡◌, refl, sym, ap, ◌∙◌}
use mathlib.Core.Bool.{Bool, true, false, ◌&&◌, ◌||◌, false≢true}
use mathlib.Core.Logic.{◌⊎◌, inl, inr}
use mathlib.Core.List.{List}
use native.Mathlib.Omega.{arith}
use lib.Dec.{ltb}
use lib.Ieee.{Float}
use borrow.Author.Tests.{ltb-true, lt-ltb, le-ltb, eqb-true}
use Rattle.std.specs.Prelude.{Option, None, Some, if◌then◌else◌}
use Rattle.laws.proofs.Firsts.{first_zero_lem}
use Rattle.vec3.specs.declared.Vec3.{Vec3}
use Rattle.vec3.specs.Vec.{pos_at}
use Rattle.loop_header.specs.declared.State.{State}
use Rattle.loop_header.specs.declared.State.TheVariants.{Empty, Full, Ring}
use Rattle.loop_header.specs.declared.Header.{Header}
use Rattle.loop_header.specs.Loops.{count_fits, mute, shape_fault, ring_fault, vectors_fault, loop_fault}
use Rattle.loop_header.proofs.Sounds.{sound}
use Rattle.ring_pair.specs.declared.Probe.{Probe}
use Rattle.ring_pair.specs.declared.Probe.TheVariants.{Nowhere, Corner, Middle}
use Rattle.ring_pair.specs.Probes.{unambiguous_point, asked_midpoint, middle_probe, first_corner, first_middle}
use Rattle.loop_ask.specs.Answers.{Told, refused, answer}
use Rattle.loop_ask.specs.Places.{place_without, place_by, place_of}
use Rattle.loop_ask.specs.Questions.{full_state, pair_fault, equivalent_loops}
use Rattle.loop_ask.proofs.Silence.{code_mute, mute_code}
use Rattle.loop_relate.specs.Relations.{is_inside, placed_inside, probe_inside, lies_in, by_edges, by_caps, by_states, relate_fault, relate_answer, searched, midpoint_for, needed_midpoint}
use Rattle.loop_relate.proofs.Searches.{searched_says, unsearched_says}
use Rattle.loop_relate.proofs.Sevens.{seven_only}
use Rattle.loop_relate.proofs.Ways.{code, Way, refusal, equal, full, caps_apart, crossing, points, way}
use Rattle.loop_relate.specs.Silence.{Unfound, nowhere, corner_outside, middle_outside, untold, Apart, caps, edges, marked, Silence}

-- ---- one loop in another
inside_code_lem : (n : ℕ) → is_inside (answer n) ≡ true → n ≡ 1
inside_code_lem zero e = absurd (false≢true e)
inside_code_lem (suc zero) e = refl
inside_code_lem (suc (suc n)) e = absurd (false≢true e)

not_inside : (o : Header) (qs ms : List Float) (p : Vec3) → placed_inside o qs ms p ≡ false → (place_of o qs ms p ≡ 0) ⊎ (mute o ≡ true)
not_inside o qs ms p e = go (place_of o qs ms p) refl e
  where
    two : (n k : ℕ) → k ≡ suc (suc n) → 2 ≤ k
    two n k q = omega arith

    go : (n : ℕ) → place_of o qs ms p ≡ n → is_inside (answer n) ≡ false → (place_of o qs ms p ≡ 0) ⊎ (mute o ≡ true)
    go zero q e = inl q
    go (suc zero) q e = absurd (false≢true (sym e))
    go (suc (suc n)) q e = inr (code_mute o qs ms p (two n _ q))

module _ (h : Header) (ps : List Float) (o : Header) (qs ms : List Float) where
  unfound : lies_in h ps o qs ms ≡ false → Unfound h ps o qs ms
  unfolding lies_in
  unfound e = go (unambiguous_point ps h.count qs ms o.count) refl e
    where
      corner : (p : Vec3) → unambiguous_point ps h.count qs ms o.count ≡ Corner p → (place_of o qs ms p ≡ 0) ⊎ (mute o ≡ true) → Unfound h ps o qs ms
      corner p q (inl z) = corner_outside p q z
      corner p q (inr m) = untold m

      middle : (p : Vec3) → unambiguous_point ps h.count qs ms o.count ≡ Middle p → (place_of o qs ms p ≡ 0) ⊎ (mute o ≡ true) → Unfound h ps o qs ms
      middle p q (inl z) = middle_outside p q z
      middle p q (inr m) = untold m

      go : (x : Probe) → unambiguous_point ps h.count qs ms o.count ≡ x → probe_inside x o qs ms ≡ false → Unfound h ps o qs ms
      go Nowhere q e = nowhere q
      go (Corner p) q e = corner p q (not_inside o qs ms p e)
      go (Middle p) q e = middle p q (not_inside o qs ms p e)

  -- a mute loop contains nothing
  nothing_in : mute o ≡ true → lies_in h ps o qs ms ≡ false
  unfolding lies_in
  nothing_in m = go (unambiguous_point ps h.count qs ms o.count)
    where
      go : (x : Probe) → probe_inside x o qs ms ≡ false
      go Nowhere = refl
      go (Corner p) = rw (mute_code o qs ms p m)
      go (Middle p) = rw (mute_code o qs ms p m)

  speaks : lies_in h ps o qs ms ≡ true → mute o ≡ false
  speaks e = go (mute o) refl
    where
      go : (b : Bool) → mute o ≡ b → mute o ≡ false
      go true q = absurd (false≢true (sym (nothing_in q) ∙ e))
      go false q = q

-- ---- by the way to the answer
module _ (h : Header) (ps ns : List Float) (cs : List ℕ) (o : Header) (qs ms : List Float) (ds : List ℕ) where
  disjoint_by : (t : Told) → Way h ps ns cs o qs ms ds t → t ≡ answer 0 → Apart h ps ns o qs ms
  disjoint_by _ (refusal k f) e = absurd (omega (arith, ap code e))
  disjoint_by _ equal e = absurd (omega (arith, ap code e))
  disjoint_by _ (full f s) e = absurd (omega (arith, ap code e))
  disjoint_by _ (caps_apart m c) e = caps m c
  disjoint_by _ crossing e = absurd (omega (arith, ap code e))
  disjoint_by _ (points t true true c q a b) e = absurd (omega (arith, ap code e))
  disjoint_by _ (points t true false c q a b) e = absurd (omega (arith, ap code e))
  disjoint_by _ (points t false true c q a b) e = absurd (omega (arith, ap code e))
  disjoint_by _ (points true false false c q a b) e = absurd (omega (arith, ap code e))
  disjoint_by _ (points false false false c q a b) e = edges c q (unfound h ps o qs ms a) (unfound o qs h ps ns b)

  within_by : (t : Told) → Way h ps ns cs o qs ms ds t → t ≡ answer 4 → mute o ≡ false
  within_by _ (refusal k f) e = absurd (omega (arith, ap code e))
  within_by _ equal e = absurd (omega (arith, ap code e))
  within_by _ (full f s) e = absurd (omega (arith, ap code e))
  within_by _ (caps_apart m c) e = absurd (omega (arith, ap code e))
  within_by _ crossing e = absurd (omega (arith, ap code e))
  within_by _ (points t true b c q i j) e = speaks h ps o qs ms i
  within_by _ (points t false true c q i j) e = absurd (omega (arith, ap code e))
  within_by _ (points true false false c q i j) e = absurd (omega (arith, ap code e))
  within_by _ (points false false false c q i j) e = absurd (omega (arith, ap code e))

  -- a full loop has no corner, so it is not mute
  full_speaks : pair_fault h ps ns cs o qs ms ds ≡ 0 → full_state h.state ≡ true → mute h ≡ false
  unfolding pair_fault
  full_speaks f s = go h.state refl s (sound h ps ns cs (first_zero_lem (loop_fault h ps ns cs) _ f).0).ring.shaped.fits
    where
      none : (n : ℕ) → n ≡ 0 → ltb 3 n ≡ false
      none n z = le-ltb 3 n (omega arith)

      go : (x : State) → h.state ≡ x → full_state x ≡ true → count_fits h.state h.count ≡ true → mute h ≡ false
      go Empty e s c = absurd (false≢true s)
      go Ring e s c = absurd (false≢true s)
      go Full e s c = rw (none h.count (eqb-true h.count 0 (rw e at c)))

  containing_by : (t : Told) → Way h ps ns cs o qs ms ds t → t ≡ answer 3 → mute h ≡ false
  containing_by _ (refusal k f) e = absurd (omega (arith, ap code e))
  containing_by _ equal e = absurd (omega (arith, ap code e))
  containing_by _ (full f s) e = full_speaks f s
  containing_by _ (caps_apart m c) e = absurd (omega (arith, ap code e))
  containing_by _ crossing e = absurd (omega (arith, ap code e))
  containing_by _ (points t true true c q i j) e = absurd (omega (arith, ap code e))
  containing_by _ (points t true false c q i j) e = absurd (omega (arith, ap code e))
  containing_by _ (points t false true c q i j) e = speaks o qs h ps ns j
  containing_by _ (points true false false c q i j) e = absurd (omega (arith, ap code e))
  containing_by _ (points false false false c q i j) e = absurd (omega (arith, ap code e))

  seven_by : relate_answer h ps ns cs o qs ms ds ≡ refused 7 → (mute h ≡ false) × (mute o ≡ false)
  seven_by e = let s = seven_only h ps ns cs o qs ms ds e in (speaks o qs h ps ns s.second_in, speaks h ps o qs ms s.first_in)

-- ---- no mark is read
module _ (r w : Bool) (h : Header) where
  place_unread : (ps ns : List Float) (p : Vec3) → place_of (marked r w h) ps ns p ≡ place_of h ps ns p
  unfolding place_without
  place_unread ps ns p = go h.insides
    where
      go : (i : Option (Vec3 × Vec3)) → place_by i (marked r w h) ps ns p ≡ place_by i h ps ns p
      go None = refl
      go (Some (a, b)) = refl

  fault_unread : (ps ns : List Float) (cs : List ℕ) → loop_fault (marked r w h) ps ns cs ≡ loop_fault h ps ns cs
  unfolding loop_fault shape_fault ring_fault vectors_fault
  fault_unread ps ns cs = refl

lies_unread : (r w r' w' : Bool) (h : Header) (ps : List Float) (o : Header) (qs ms : List Float) → lies_in (marked r w h) ps (marked r' w' o) qs ms ≡ lies_in h ps o qs ms
unfolding lies_in
lies_unread r w r' w' h ps o qs ms = go (unambiguous_point ps h.count qs ms o.count)
  where
    go : (x : Probe) → probe_inside x (marked r' w' o) qs ms ≡ probe_inside x o qs ms
    go Nowhere = refl
    go (Corner p) = ap (λ (n : ℕ). is_inside (answer n)) (place_unread r' w' o qs ms p)
    go (Middle p) = ap (λ (n : ℕ). is_inside (answer n)) (place_unread r' w' o qs ms p)

module _ (h : Header) (ps ns : List Float) (cs : List ℕ) (o : Header) (qs ms : List Float) (ds : List ℕ) (r w r' w' : Bool) where
  edges_unread : by_edges (marked r w h) ps ns (marked r' w' o) qs ms ≡ by_edges h ps ns o qs ms
  unfolding by_edges
  edges_unread = rw (lies_unread r w r' w' h ps o qs ms, lies_unread r' w' r w o qs h ps ns)

  states_unread : by_states (marked r w h) ps ns cs (marked r' w' o) qs ms ds ≡ by_states h ps ns cs o qs ms ds
  unfolding by_states by_caps equivalent_loops
  states_unread = rw edges_unread

  unread : relate_answer (marked r w h) ps ns cs (marked r' w' o) qs ms ds ≡ relate_answer h ps ns cs o qs ms ds
  unfolding relate_fault relate_answer pair_fault
  unread = rw (fault_unread r w h ps ns cs, fault_unread r' w' o qs ms ds, states_unread)

-- ---- midpoints
middle_needed : (ps : List Float) (n : ℕ) (rs rn : List Float) (m : ℕ) (p : Vec3) → unambiguous_point ps n rs rn m ≡ Middle p → midpoint_for ps n rs rn m ≡ true
unfolding unambiguous_point middle_probe
middle_needed ps n rs rn m p e = go (asked_midpoint ps n rs rn m) refl e
  where
    kind : Probe → ℕ
    kind Nowhere = 0
    kind (Corner q) = 1
    kind (Middle q) = 2

    some : (b : Bool) (x : Probe) → (if b then x else Nowhere) ≡ Middle p → b ≡ true
    some true x e = refl
    some false x e = absurd (omega (arith, ap kind e))

    above : (i k : ℕ) → i < k → 0 < k
    above i k l = omega arith

    go : (b : Bool) → asked_midpoint ps n rs rn m ≡ b → (if b then middle_probe ps n rs rn m else Corner (pos_at ps (first_corner ps n rs rn m))) ≡ Middle p → midpoint_for ps n rs rn m ≡ true
    go true a e = rw (lt-ltb 0 n (above (first_middle ps n rs rn m) n (ltb-true _ _ (some (ltb (first_middle ps n rs rn m) n) _ e))), a)
    go false a e = absurd (omega (arith, ap kind e))

either_none : (s a b : Bool) → (s && (a || b)) ≡ false → s ≡ true → (a ≡ false) × (b ≡ false)
either_none true false false e t = (refl, refl)
either_none true true b e t = absurd (false≢true (sym e))
either_none true false true e t = absurd (false≢true (sym e))
either_none false a b e t = absurd (false≢true t)

pub silence : (h : Header) (ps ns : List Float) (cs : List ℕ) (o : Header) (qs ms : List Float) (ds : List ℕ) → Silence h ps ns cs o qs ms ds
unfolding needed_midpoint
silence h ps ns cs o qs ms ds = record {
  disjoint_says = λ e. disjoint_by h ps ns cs o qs ms ds _ (way h ps ns cs o qs ms ds) e;
  mute_contains_nothing = nothing_in h ps o qs ms;
  within_says = λ e. within_by h ps ns cs o qs ms ds _ (way h ps ns cs o qs ms ds) e;
  containing_says = λ e. containing_by h ps ns cs o qs ms ds _ (way h ps ns cs o qs ms ds) e;
  seven_says = seven_by h ps ns cs o qs ms ds;
  marks_unread = unread h ps ns cs o qs ms ds;
  searched_says = searched_says h ps ns cs o qs ms ds;
  unsearched_says = unsearched_says h ps ns cs o qs ms ds;
  no_midpoint = λ e s p.
      let n = either_none (searched h ps ns cs o qs ms ds) _ _ e s in
      ((λ q. false≢true (sym n.0 ∙ middle_needed ps h.count qs ms o.count p q)), (λ q. false≢true (sym n.1 ∙ middle_needed qs o.count ps ns h.count p q)));
}
