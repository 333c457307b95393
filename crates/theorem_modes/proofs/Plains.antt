-- Plain mode comes to the source's rule: each line by unfolding its definition; and building stores the mode and nothing else. Assumes nothing.
use Prim.Native.Nat.{ℕ, zero, suc, ◌/◌}
use native.Mathlib.Omega.{arith}
use mathlib.Core.Path.{◌≡◌, refl, ap}
use mathlib.Core.Bool.{Bool, true, false}
use mathlib.Core.List.{List}
use lib.Dec.{ltb}
use lib.Ieee.{Float}
use Rattle.laws.specs.Loop.{first}
use Rattle.minor_arc.specs.declared.Mode.{Mode}
use Rattle.minor_arc.specs.declared.Mode.TheVariants.{Plain}
use Rattle.minor_arc.specs.Arcs.{missed, meeting_of}
use Rattle.arc_relations.specs.Relations.{relation_of}
use Rattle.arcs.specs.Answers.{intersection_told, relate_told}
use Rattle.ring_place.specs.Places.{crossed_evenly, inside_by}
use Rattle.ring_shape.specs.Shapes.{edges_meet, meets_later, any_meets_later, simple}
use Rattle.ring_pair.specs.Contacts.{any_crosses, any_touches, contact_of}
use Rattle.ring_corners.specs.Corners.{reversal, classes_of, all_both}
use Rattle.loop_header.specs.declared.Header.{Header}
use Rattle.loop_build.specs.Build as Build
use Rattle.loop_ask.specs.Questions.{simple_answer, pair_fault}
use Rattle.loop_relate.specs.Relations.{by_edges, by_caps, relate_fault, relate_answer, searched}
use Rattle.bytes_loop.specs.Layout.{marks_at, mark_if, is_long}
use Rattle.theorem_modes.specs.Plains.{OfArcs, OfRings, OfPairs, OfLoops, outcome_in, OfBuilding, OfBytes, Plains}

of_arcs : OfArcs
of_arcs = record {
  plain_missed = λ a i. unfold missed in refl;
  plain_meeting = λ a b. unfold meeting_of in refl;
  plain_relation = λ a b. unfold relation_of in refl;
  plain_intersection = λ a b. unfold intersection_told in refl;
  plain_relate = λ a b. unfold relate_told in refl;
}

of_rings : OfRings
of_rings = record {
  plain_pass = λ arc ps ns n i s. refl;
  plain_crossings = λ arc ps ns n. unfold crossed_evenly in refl;
  plain_inside = λ cap a b ps ns n p. unfold inside_by in refl;
  plain_edges_meet = λ ps ns n i j. unfold edges_meet in refl;
  plain_meets_later = λ ps ns n i. unfold meets_later in refl;
  plain_any_meets_later = λ ps ns n. unfold any_meets_later in refl;
  plain_simple = λ ps ns n. unfold simple in refl;
}

of_pairs : OfPairs
of_pairs = record {
  plain_crosses = λ a os om m j. refl;
  plain_touches = λ a os om m j. refl;
  plain_any_crosses = λ a os om m. unfold any_crosses in refl;
  plain_any_touches = λ a os om m. unfold any_touches in refl;
  plain_arc_contact = λ a os om m. refl;
  plain_part_contact = λ a os om m i j. refl;
  plain_edge_crosses = λ ps ns n os om m i. refl;
  plain_edge_touches = λ ps ns n os om m i. refl;
  plain_contact = λ ps ns n os om m. unfold contact_of in refl;
}

first_none : (k : ℕ) → first k 0 ≡ k
first_none zero = refl
first_none (suc k) = refl

of_loops : (h : Header) (ps ns : List Float) (cs : List ℕ) → h.mode ≡ Plain → OfLoops h ps ns cs
of_loops h ps ns cs e = record {
  plain_inside_with = λ a b p. simp e;
  plain_place = λ a b p q. simp (q, e);
  plain_place_without = λ p q. simp q;
  plain_simple = unfold simple_answer in simp e;
  plain_by_edges = λ o qs ms. unfold by_edges in simp e;
  plain_by_caps = λ o qs ms ds. unfold by_caps in simp e;
  plain_searched = λ o qs ms ds. unfold searched in simp e;
  plain_relate = λ o qs ms ds q. unfold relate_answer relate_fault in simp (e, q, first_none (pair_fault h ps ns cs o qs ms ds));
}

-- by whether all corners are both, by how many are left, and by the refusal
module _ (mode : Mode) (l : List Float) (n : ℕ) (ps ns : List Float) (cs : List ℕ) where
  of_made : (b reversed : Bool) → Build.outcome_of (Build.made_if b mode l n reversed ps ns cs) ≡ outcome_in mode (Build.outcome_of (Build.made_if b Plain l n reversed ps ns cs))
  unfolding Build.ring_header
  of_made true reversed = refl
  of_made false reversed = refl

  of_count : (b : Bool) → Build.outcome_if b mode l n ps ns cs ≡ outcome_in mode (Build.outcome_if b Plain l n ps ns cs)
  unfolding Build.made
  of_count true = refl
  of_count false = of_made (all_both (classes_of l n (reversal l n))) (reversal l n)

of_refusal : (k : ℕ) (mode : Mode) (l ps ns : List Float) (cs : List ℕ) → Build.outcome_by k mode l ps ns cs ≡ outcome_in mode (Build.outcome_by k Plain l ps ns cs)
of_refusal zero mode l ps ns cs = of_count mode l (Build.opened_count l) ps ns cs (ltb (Build.opened_count l) 3)
of_refusal (suc k) mode l ps ns cs = refl

of_building : OfBuilding
of_building = record {
  mode_stored_alone = λ mode l ps ns cs. unfold Build.build_outcome in of_refusal (Build.refusal l ps ns cs) mode l ps ns cs;
}

of_bytes : OfBytes
of_bytes = record {
  plain_marks = λ h e. unfold mark_if in simp (ap is_long e) (omega arith);
  plain_read = λ s small. let none : marks_at s / 8 ≡ 0 = omega (arith, small) in simp none;
}

pub plains : Plains
plains = record { of_arcs = of_arcs; of_rings = of_rings; of_pairs = of_pairs; of_loops = of_loops; of_building = of_building; of_bytes = of_bytes }
