-- Loops as built are refused by 8, 9, 7 and 11 alone: the statement of specs/Built.antt, question by question. Assumes nothing.
use Prim.Native.Nat.{ℕ, zero, suc, ◌-◌, ◌*◌, ◌%◌, ◌≤◌, ◌<◌}
use mathlib.Core.Path.{◌≡◌, refl, sym, ap, ◌∙◌}
use mathlib.Core.Bool.{Bool, true, false, cond, true≢false}
use mathlib.Core.List.{List}
use native.Mathlib.Omega.{arith}
use lib.ListN.{length}
use lib.Dec.{eqb, ltb}
use lib.Ieee.{Float}
use borrow.Author.Tests.{eqb-true, eq-eqb, le-ltb, ltb-false, ltb-true}
use Rattle.std.specs.Prelude.{Option, None, Some, if◌then◌else◌}
use Rattle.laws.specs.Loop.{first, first_at, any_of}
use Rattle.laws.proofs.Firsts.{first_zero_lem, first_fine}
use Rattle.vec3.specs.declared.Vec3.{Vec3}
use Rattle.vec3.specs.Vec.{cleared}
use Rattle.judge.specs.Judge.{fault_of}
use Rattle.judge.specs.Why.{Then, stops, goes_on_lem}
use Rattle.ring_edges.specs.Edges.{has_vertex, on_edge}
use Rattle.ring_place.specs.Places.{in_triangle}
use Rattle.ring_shape.specs.Shapes as S
use Rattle.ring_cut.specs.Cut as C
use Rattle.ring_cut.proofs.Steps.{cutting_end}
use Rattle.ring_theory.proofs.Numbers.{size}
use Rattle.ring_check.specs.Accepted.{accepted}
use Rattle.ring_pair.specs.Probes.{asked_midpoint, first_middle, middle_probe, unambiguous_point}
use Rattle.loop_header.specs.declared.State.{State}
use Rattle.loop_header.specs.declared.State.TheVariants.{Empty, Full, Ring}
use Rattle.loop_header.specs.declared.Header.{Header}
use Rattle.loop_header.specs.Loops.{count_fits, threes_of, shape_fault, ring_fault, vectors_fault, ring_only, cut_fault, check_fault, loop_fault}
use Rattle.loop_header.proofs.Sounds.{sound}
use Rattle.loop_ask.specs.Answers.{Told, refused, answer, bool_told}
use Rattle.loop_ask.specs.Places.{inside_code, place_no_corner, place_without, place_by, place_of, inside_with}
use Rattle.loop_ask.specs.Questions as Q
use Rattle.loop_ask.specs.Questions.{query_fault, pair_fault, equivalent_loops}
use Rattle.loop_ask.specs.Why.{PairWhy}
use Rattle.loop_ask.proofs.Exact as Ask
use Rattle.loop_distances.specs.Distances.{chord, far, boundary_told, boundary_answer}
use Rattle.loop_triangles.specs.Triangles.{Outcome, cut_told, full_outcome, triangulate_outcome, accepts_answer}
use Rattle.loop_triangles.specs.Demand.{Cutting}
use Rattle.loop_triangles.proofs.Demand.{cut_is, demand_3}
use Rattle.loop_relate.specs.Relations.{lies_in, relate_fault, relate_answer}
use Rattle.loop_relate.proofs.Modes.{ModesWhy, unlike, fault_exact, unrefused}
use Rattle.loop_relate.proofs.Ways.{Way, refusal, equal, full, caps_apart, crossing, points, way}
use Rattle.loop_relate.proofs.Sevens.{seven_only}
use Rattle.loop_relate.proofs.Selves.{equal_to_itself}
use Rattle.theorem_built.specs.Built.{Answers, triangle_count, Cut, all, no_ear, Checked, Related, related, each_in_other, modes_differ, Built}
use Rattle.theorem_built.proofs.Whole.{some, whole, stored_mode}

-- ---- an answer, where nothing is refused
told : (m k : ℕ) → k ≤ m → Answers m (answer k)
told m k h = record { number = k; most = h; is = refl }

bool_told_lem : (b : Bool) → Answers 1 (bool_told b)
bool_told_lem false = told 1 0 (omega arith)
bool_told_lem true = told 1 1 (omega arith)

inside_most : (b : Bool) → inside_code b ≤ 2
inside_most true = omega arith
inside_most false = omega arith

no_corner_most : (s : State) → place_no_corner s ≤ 2
no_corner_most Empty = omega arith
no_corner_most Full = omega arith
no_corner_most Ring = omega arith

if_most : (c : Bool) (x y : ℕ) → x ≤ 2 → y ≤ 2 → (if c then x else y) ≤ 2
if_most true x y h k = h
if_most false x y h k = k

module _ (h : Header) (ps ns : List Float) (cs : List ℕ) (f : loop_fault h ps ns cs ≡ 0) where
  place_most : (i : Option (Vec3 × Vec3)) (p : Vec3) → place_by i h ps ns p ≤ 2
  unfolding place_without
  place_most None p =
      let more : ℕ = if ltb 3 h.count then 2 else place_no_corner h.state in
      if_most (eqb h.count 3) (inside_code (in_triangle ps ns p)) more (inside_most (in_triangle ps ns p))
      (if_most (ltb 3 h.count) 2 (place_no_corner h.state) (omega arith) (no_corner_most h.state))
  place_most (Some (a, b)) p = inside_most (inside_with h a b ps ns p)

  module _ (p : Vec3) (q : fault_of (cleared p) ≡ 0) where
    asked : query_fault h ps ns cs (cleared p) ≡ 0
    unfolding query_fault
    asked = first_fine _ _ f q

    place : Answers 2 (Q.place_answer h ps ns cs p)
    unfolding Q.place_answer
    place = rw asked (told 2 (place_of h ps ns (cleared p)) (place_most h.insides (cleared p)))

    vertex : Answers 1 (Q.vertex_answer h ps ns cs p)
    unfolding Q.vertex_answer
    vertex = rw asked (bool_told_lem (has_vertex ps h.count (cleared p)))

    on_edge_lem : Answers 1 (Q.on_edge_answer h ps ns cs p)
    unfolding Q.on_edge_answer
    on_edge_lem = rw asked (bool_told_lem (on_edge ps ns h.count (cleared p)))

    distance : boundary_answer h ps ns cs p ≡ chord (far ps ns h.count (cleared p))
    unfolding boundary_told
    distance = rw asked

  convex : Answers 1 (Q.convex_answer h ps ns cs)
  unfolding Q.convex_answer
  convex = rw f (bool_told_lem (S.convex ps h.count))

  simple : Answers 1 (Q.simple_answer h ps ns cs)
  unfolding Q.simple_answer
  simple = rw f (bool_told_lem (S.simple h.mode ps ns h.count))

  fits : count_fits h.state h.count ≡ true
  fits = (sound h ps ns cs f).ring.shaped.fits

  codes : length cs ≡ h.count
  codes = (sound h ps ns cs f).ring.shaped.classes

  -- ---- cutting
  parts : (shape_fault h ps cs ≡ 0) × (ring_fault h ps cs ≡ 0)
  unfolding loop_fault
  parts =
      let w : ℕ = cond (threes_of (length ns) h.count) 0 1 in
      let a = first_zero_lem (shape_fault h ps cs) (first w (first (ring_fault h ps cs) (vectors_fault h ns))) f in
      let b = first_zero_lem w (first (ring_fault h ps cs) (vectors_fault h ns)) a.1 in
      (a.0, (first_zero_lem (ring_fault h ps cs) (vectors_fault h ns) b.1).0)

  pub uncut : cut_fault h ps cs ≡ 0
  unfolding cut_fault
  uncut = first_fine (shape_fault h ps cs) (ring_fault h ps cs) parts.0 parts.1

  -- three corners need no ear
  three_through : length cs ≤ 3 → (C.cutting_of ps cs).stuck ≡ false
  three_through l =
      let z : length (C.whole_ring cs).ids - 3 ≡ 0 = omega (arith, size (length cs)) in
      rw (z, cutting_end ps (C.whole_ring cs))

  module _ (tris : List ℕ) where
    stuck_told : (C.cutting_of ps cs).stuck ≡ true → cut_told (C.cut_ring_outcome ps cs tris).answer (length cs - 2) ≡ refused 8
    unfolding C.cut_ring_outcome
    stuck_told e = rw e

    through_told : (C.cutting_of ps cs).stuck ≡ false → cut_told (C.cut_ring_outcome ps cs tris).answer (length cs - 2) ≡ answer (length cs - 2)
    unfolding C.cut_ring_outcome
    through_told e = rw e

    ring_cut : h.state ≡ Ring → 3 * (h.count - 2) ≤ length tris → (b : Bool) → (C.cutting_of ps cs).stuck ≡ b → Cut h (triangulate_outcome h ps cs tris).answer
    ring_cut s r b e = by b e
      where
        is : (triangulate_outcome h ps cs tris).answer ≡ cut_told (C.cut_ring_outcome ps cs tris).answer (length cs - 2)
        is = ap (λ (o : Outcome). o.answer) (cut_is h ps cs tris uncut s (rw codes r))

        above : (C.cutting_of ps cs).stuck ≡ true → (few : Bool) → ltb 3 h.count ≡ few → 3 < h.count
        above e true t = ltb-true 3 h.count t
        above e false t = absurd (true≢false (sym e ∙ three_through (rw codes (ltb-false 3 h.count t))))

        by : (b : Bool) → (C.cutting_of ps cs).stuck ≡ b → Cut h (triangulate_outcome h ps cs tris).answer
        by true e = rw (is, stuck_told e) (no_ear s (above e (ltb 3 h.count) refl))
        by false e =
            let n : triangle_count h.state h.count ≡ length cs - 2 = rw (s, codes) in
            rw (is, through_told e, ← n) all

    cut : (s : State) → h.state ≡ s → 3 * triangle_count s h.count ≤ length tris → Cut h (triangulate_outcome h ps cs tris).answer
    cut Empty s r =
        let e : (triangulate_outcome h ps cs tris).answer ≡ answer (triangle_count h.state h.count) = unfold triangulate_outcome in rw (uncut, s) in
        rw e all
    cut Full s r =
        let e : (triangulate_outcome h ps cs tris).answer ≡ answer (triangle_count h.state h.count) = unfold triangulate_outcome full_outcome in rw (uncut, s, le-ltb (length tris) 60 r) in
        rw e all
    cut Ring s r = ring_cut s r (C.cutting_of ps cs).stuck refl

    -- ---- the checker
    check_is : length tris % 3 ≡ 0 → check_fault h ps cs (length tris) ≡ ring_only h.state
    unfolding check_fault
    check_is t = rw (parts.0, eq-eqb _ _ t, parts.1)

    checked : length tris % 3 ≡ 0 → (s : State) → h.state ≡ s → Checked s (accepts_answer h ps cs tris)
    unfolding accepts_answer
    checked t Empty s = rw (check_is t, s)
    checked t Full s = rw (check_is t, s)
    checked t Ring s = rw (check_is t, s) (bool_told_lem (accepted ps cs tris))

-- ---- two loops
-- a loop with no corner lies in none
nowhere : (h : Header) (ps : List Float) (o : Header) (qs ms : List Float) → h.count ≡ 0 → lies_in h ps o qs ms ≡ false
unfolding lies_in unambiguous_point asked_midpoint middle_probe first_middle any_of first_at
nowhere h ps o qs ms e = rw e

is_ring : (h : Header) (ps : List Float) (o : Header) (qs ms : List Float) (s : State) → h.state ≡ s → count_fits s h.count ≡ true → lies_in h ps o qs ms ≡ true → h.state ≡ Ring
is_ring h ps o qs ms Empty s c e = absurd (true≢false (sym e ∙ nowhere h ps o qs ms (eqb-true _ _ c)))
is_ring h ps o qs ms Full s c e = absurd (true≢false (sym e ∙ nowhere h ps o qs ms (eqb-true _ _ c)))
is_ring h ps o qs ms Ring s c e = s

module _ (h : Header) (ps ns : List Float) (cs : List ℕ) (o : Header) (qs ms : List Float) (ds : List ℕ) (f : loop_fault h ps ns cs ≡ 0) (g : loop_fault o qs ms ds ≡ 0) where
  both : pair_fault h ps ns cs o qs ms ds ≡ 0
  unfolding pair_fault
  both = first_fine _ _ f g

  equivalent : Answers 1 (Q.equivalent_answer h ps ns cs o qs ms ds)
  unfolding Q.equivalent_answer
  equivalent = rw both (bool_told_lem (equivalent_loops h ps cs o qs ds))

  seven : relate_answer h ps ns cs o qs ms ds ≡ refused 7 → Related h o (relate_answer h ps ns cs o qs ms ds)
  seven e =
      let s = seven_only h ps ns cs o qs ms ds e in
      rw e (each_in_other s.one_mode (is_ring h ps o qs ms h.state refl (fits h ps ns cs f) s.first_in) (is_ring o qs h ps ns o.state refl (fits o qs ms ds g) s.second_in))

  -- one of the six relations, 7 or 11
  relation : Related h o (relate_answer h ps ns cs o qs ms ds)
  relation = by_fault (relate_fault h ps ns cs o qs ms ds) refl
    where
      -- neither loop is refused, so their modes differ
      differing : (k : ℕ) → relate_answer h ps ns cs o qs ms ds ≡ refused (suc k) → Then (PairWhy h ps ns cs o qs ms ds) (ModesWhy h.mode o.mode) (suc k)
          → Related h o (relate_answer h ps ns cs o qs ms ds)
      differing k e (stops w) = absurd (omega (arith, both, ((Ask.exact h ps ns cs).pair o qs ms ds).why_given (suc k) w))
      differing k e (goes_on_lem z (unlike d)) = rw e (modes_differ d)

      first_refused_lem : (k : ℕ) → relate_fault h ps ns cs o qs ms ds ≡ suc k → relate_answer h ps ns cs o qs ms ds ≡ refused (suc k)
      first_refused_lem k f = unfold relate_answer in rw f

      by_way : relate_fault h ps ns cs o qs ms ds ≡ 0 → (t : Told) → relate_answer h ps ns cs o qs ms ds ≡ t → Way h ps ns cs o qs ms ds t
          → Related h o (relate_answer h ps ns cs o qs ms ds)
      by_way z t e w = go t e w
        where
          found : (k : ℕ) → k ≤ 5 → relate_answer h ps ns cs o qs ms ds ≡ answer k → Related h o (relate_answer h ps ns cs o qs ms ds)
          found k l e = related (unrefused h ps ns cs o qs ms ds z).1 (record { number = k; most = l; is = e })

          go : (t : Told) → relate_answer h ps ns cs o qs ms ds ≡ t → Way h ps ns cs o qs ms ds t → Related h o (relate_answer h ps ns cs o qs ms ds)
          go _ e (refusal k f) = absurd (omega (arith, z, f))
          go _ e equal = found 5 (omega arith) e
          go _ e (full f s) = found 3 (omega arith) e
          go _ e (caps_apart m c) = found 0 (omega arith) e
          go _ e crossing = found 2 (omega arith) e
          go _ e (points t true true c q a b) = seven e
          go _ e (points t true false c q a b) = found 4 (omega arith) e
          go _ e (points t false true c q a b) = found 3 (omega arith) e
          go _ e (points true false false c q a b) = found 1 (omega arith) e
          go _ e (points false false false c q a b) = found 0 (omega arith) e

      by_fault : (k : ℕ) → relate_fault h ps ns cs o qs ms ds ≡ k → Related h o (relate_answer h ps ns cs o qs ms ds)
      by_fault zero z = by_way z _ refl (way h ps ns cs o qs ms ds)
      by_fault (suc k) f = differing k (first_refused_lem k f) ((fault_exact h ps ns cs o qs ms ds).given_why (suc k) f)

-- ---- the theorem on ears
ears_of : (h : Header) (ps ns : List Float) (cs tris : List ℕ) → loop_fault h ps ns cs ≡ 0 → h.state ≡ Ring → 3 * (h.count - 2) ≤ length tris → Cutting h ps cs tris
ears_of h ps ns cs tris f s r = demand_3.cutting h ps cs tris (record { fine = uncut h ps ns cs f; ring = s; room = rw (codes h ps ns cs f) r })

pub built : Built
built = record {
  build = some;
  stored_mode = stored_mode;
  loop_fault_lem = whole;
  contains_position = λ a b. place a.header a.positions a.normals a.classes (whole a b);
  has_vertex_lem = λ a b. vertex a.header a.positions a.normals a.classes (whole a b);
  any_edge_contains_position = λ a b. on_edge_lem a.header a.positions a.normals a.classes (whole a b);
  distance_to_boundary = λ a b. distance a.header a.positions a.normals a.classes (whole a b);
  is_convex = λ a b. convex a.header a.positions a.normals a.classes (whole a b);
  is_simple_lem = λ a b. simple a.header a.positions a.normals a.classes (whole a b);
  is_equivalent_lem = λ a c b d. equivalent a.header a.positions a.normals a.classes c.header c.positions c.normals c.classes (whole a b) (whole c d);
  triangulate = λ a b tris r. cut a.header a.positions a.normals a.classes (whole a b) tris a.header.state refl r;
  ears = λ a b tris s r. ears_of a.header a.positions a.normals a.classes tris (whole a b) s r;
  accepts = λ a b tris t. checked a.header a.positions a.normals a.classes (whole a b) tris t a.header.state refl;
  relate = λ a c b d. relation a.header a.positions a.normals a.classes c.header c.positions c.normals c.classes (whole a b) (whole c d);
  relate_itself = λ a b m. (equal_to_itself a.header a.positions a.normals a.classes).meeting (whole a b) m;
  relate_itself_long = λ a b m. (equal_to_itself a.header a.positions a.normals a.classes).long (whole a b) m;
}
