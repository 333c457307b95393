-- SCOPE 24, 55, 56: how two loops stand to each other, the refusal or the relation's number. Definitions only.
use Rattle.std.specs.Prelude.{ℕ, zero, suc, ◌*◌, ◌≤◌, Bool, true, false, not, ◌&&◌, ◌||◌, List, length, ltb, Float, Result, Ok, Err}
use Rattle.laws.specs.Loop.{first}
use Rattle.vec3.specs.declared.Vec3.{Vec3}
use Rattle.cap.specs.declared.Cap.{Cap}
use Rattle.cap.specs.Caps.{intersects}
use Rattle.minor_arc.specs.declared.Mode.{Mode}
use Rattle.minor_arc.specs.declared.Mode.TheVariants.{Plain, Long}
use Rattle.judge.specs.declared.Refusal.{Refusal}
use Rattle.judge.specs.Refusals.{number}
use Rattle.loop_header.specs.declared.State.{State}
use Rattle.loop_header.specs.declared.State.TheVariants.{Empty, Full, Ring}
use Rattle.loop_header.specs.declared.Header.{Header}
use Rattle.ring_pair.specs.declared.Probe.{Probe}
use Rattle.ring_pair.specs.declared.Probe.TheVariants.{Nowhere, Corner, Middle}
use Rattle.ring_pair.specs.Contacts.{is_crossed, is_touched, contact_of}
use Rattle.ring_pair.specs.Probes.{unambiguous_point, asked_midpoint}
use Rattle.loop_ask.specs.Answers.{Told, refused, answer, judged}
use Rattle.loop_ask.specs.Places.{cleared_cap, place_of}
use Rattle.loop_ask.specs.Questions.{full_state, pair_fault, equivalent_loops}
use Rattle.loop_relate.specs.declared.Relation.{Relation}
use Rattle.loop_relate.specs.declared.Relation.TheVariants.{Disjoint, Touching, Intersecting, Containing, Within, Equal}

-- SCOPE 24: the number of each relation
abbrev pub relation_code : Relation → ℕ
relation_code Disjoint = 0
relation_code Touching = 1
relation_code Intersecting = 2
relation_code Containing = 3
relation_code Within = 4
relation_code Equal = 5

abbrev pub told_related : Result Relation Refusal → Told
told_related (Ok r) = answer (relation_code r)
told_related (Err r) = refused (number r)

abbrev pub empty_state : State → Bool
empty_state Empty = true
empty_state Full = false
empty_state Ring = false

-- SCOPE 56: 11 for loops of different modes
abbrev pub modes_fault : Mode → Mode → ℕ
modes_fault Plain Plain = 0
modes_fault Plain Long = 11
modes_fault Long Plain = 11
modes_fault Long Long = 0

-- after both loops' own refusals, whatever their states
unfoldable pub relate_fault : Header → List Float → List Float → List ℕ → Header → List Float → List Float → List ℕ → ℕ
relate_fault h ps ns cs o qs ms ds = first (pair_fault h ps ns cs o qs ms ds) (modes_fault h.mode o.mode)

-- sizes of two loops that are not refused
pub record Sized (h : Header) (ps ns : List Float) (o : Header) (qs ms : List Float) : Type 0 where
  pub most : h.count ≤ 512
  pub positions : 3 * h.count ≤ length ps
  pub normals : 3 * h.count ≤ length ns
  pub other_most : o.count ≤ 512
  pub other_positions : 3 * o.count ≤ length qs
  pub other_normals : 3 * o.count ≤ length ms

-- a mute loop contains nothing here
abbrev pub is_inside : Told → Bool
is_inside (refused k) = false
is_inside (answer zero) = false
is_inside (answer (suc zero)) = true
is_inside (answer (suc (suc n))) = false

abbrev pub placed_inside : Header → List Float → List Float → Vec3 → Bool
placed_inside o qs ms p = is_inside (answer (place_of o qs ms p))

-- the point that was found lies in the loop
abbrev pub probe_inside : Probe → Header → List Float → List Float → Bool
probe_inside Nowhere o qs ms = false
probe_inside (Corner p) o qs ms = placed_inside o qs ms p
probe_inside (Middle p) o qs ms = placed_inside o qs ms p

-- a point of the first that is on no edge of the second lies in the second
unfoldable pub lies_in : Header → List Float → Header → List Float → List Float → Bool
lies_in h ps o qs ms = probe_inside (unambiguous_point ps h.count qs ms o.count) o qs ms

-- SCOPE 25: 7 where each loop is found in the other
abbrev pub by_containment : Bool → Bool → Bool → Told
by_containment touched true true = refused 7
by_containment touched true false = answer 4
by_containment touched false true = answer 3
by_containment true false false = answer 1
by_containment false false false = answer 0

-- edges that cross are intersecting, whatever else touches
abbrev pub edges_if : Bool → Told → Told
edges_if true t = answer 2
edges_if false t = t

-- SCOPE 55: by the first loop's mode, which is the second's too
unfoldable pub by_edges : Header → List Float → List Float → Header → List Float → List Float → Told
by_edges h ps ns o qs ms =
    let k = contact_of h.mode ps ns h.count qs ms o.count in
    edges_if (is_crossed k) (by_containment (is_touched k) (lies_in h ps o qs ms) (lies_in o qs h ps ns))

-- SCOPE 55: the caps are asked in plain mode alone, as a long side may leave its cap
abbrev pub caps_meet : Mode → Cap → Cap → Bool
caps_meet Plain c d = intersects c d
caps_meet Long c d = true

-- caps that do not meet are disjoint; equivalent loops are equal
abbrev pub equal_if : Bool → Told → Told
equal_if true t = answer 5
equal_if false t = t

abbrev pub disjoint_if : Bool → Told → Told
disjoint_if true t = answer 0
disjoint_if false t = t

unfoldable pub by_caps : Header → List Float → List Float → List ℕ → Header → List Float → List Float → List ℕ → Told
by_caps h ps ns cs o qs ms ds =
    disjoint_if (not (caps_meet h.mode (cleared_cap h.cap) (cleared_cap o.cap)))
    (equal_if (equivalent_loops h ps cs o qs ds) (by_edges h ps ns o qs ms))

-- the full loop contains every other; two full or two empty ones are equal
abbrev pub full_if : Bool → Bool → Told → Told
full_if true true t = answer 5
full_if true false t = answer 3
full_if false b t = t

unfoldable pub by_states : Header → List Float → List Float → List ℕ → Header → List Float → List Float → List ℕ → Told
by_states h ps ns cs o qs ms ds =
    full_if (full_state h.state) (full_state o.state)
    (equal_if (empty_state h.state && empty_state o.state) (by_caps h ps ns cs o qs ms ds))

unfoldable pub relate_answer : Header → List Float → List Float → List ℕ → Header → List Float → List Float → List ℕ → Told
relate_answer h ps ns cs o qs ms ds = judged (relate_fault h ps ns cs o qs ms ds) (by_states h ps ns cs o qs ms ds)

-- ---- SCOPE 10: a pair that needed a midpoint is outside the domain
-- the pair comes to the search for points: the first loop is not full, not both are empty, the caps meet or are not asked, they are not equivalent, and no
-- edges cross
unfoldable pub searched : Header → List Float → List Float → List ℕ → Header → List Float → List Float → List ℕ → Bool
searched h ps ns cs o qs ms ds =
    not (full_state h.state) && not (empty_state h.state && empty_state o.state) && caps_meet h.mode (cleared_cap h.cap) (cleared_cap o.cap)
    && not (equivalent_loops h ps cs o qs ds) && not (is_crossed (contact_of h.mode ps ns h.count qs ms o.count))

-- a ring with corners none of which is free: a midpoint of its edges is worked out
abbrev pub midpoint_for : List Float → ℕ → List Float → List Float → ℕ → Bool
midpoint_for ps n rs rn m = ltb 0 n && asked_midpoint ps n rs rn m

unfoldable pub needed_midpoint : Header → List Float → List Float → List ℕ → Header → List Float → List Float → List ℕ → Bool
needed_midpoint h ps ns cs o qs ms ds =
    searched h ps ns cs o qs ms ds && (midpoint_for ps h.count qs ms o.count || midpoint_for qs o.count ps ns h.count)
