-- SCOPE 24, 55: what `relate` can and cannot say of a mute loop and of a weak one, in plain mode and in long mode, beside what silence of a place says
-- (`loop_ask/specs/Silence`). Proved in proofs/Silence.antt. Definitions only.
use Rattle.std.specs.Prelude.{ℕ, ◌≡◌, Bool, true, false, List, Float}
use Rattle.vec3.specs.declared.Vec3.{Vec3}
use Rattle.cap.specs.Caps.{intersects}
use Rattle.minor_arc.specs.declared.Mode.{Mode}
use Rattle.minor_arc.specs.declared.Mode.TheVariants.{Plain}
use Rattle.loop_header.specs.declared.Header.{Header}
use Rattle.loop_header.specs.Loops.{mute}
use Rattle.ring_pair.specs.declared.Probe.TheVariants.{Nowhere, Corner, Middle}
use Rattle.ring_pair.specs.Contacts.{is_crossed, is_touched, contact_of}
use Rattle.ring_pair.specs.Probes.{unambiguous_point}
use Rattle.loop_ask.specs.Answers.{Told, refused, answer}
use Rattle.loop_ask.specs.Places.{cleared_cap, place_of}
use Rattle.loop_relate.specs.Relations.{relate_fault, lies_in, by_containment, searched, needed_midpoint, relate_answer}

-- why a first loop is not found in a second
pub data Unfound (h : Header) (ps : List Float) (o : Header) (qs ms : List Float) : Type 0 where
  -- it has no point that is on no edge of the second
  nowhere : unambiguous_point ps h.count qs ms o.count ≡ Nowhere → Unfound h ps o qs ms
  -- the point that was found, a corner or a midpoint, is outside the second, which says so
  corner_outside : (p : Vec3) → unambiguous_point ps h.count qs ms o.count ≡ Corner p → place_of o qs ms p ≡ 0 → Unfound h ps o qs ms
  middle_outside : (p : Vec3) → unambiguous_point ps h.count qs ms o.count ≡ Middle p → place_of o qs ms p ≡ 0 → Unfound h ps o qs ms
  -- the second is mute, and cannot say
  untold : mute o ≡ true → Unfound h ps o qs ms

-- what Disjoint says of two loops; of their caps in plain mode alone
pub data Apart (h : Header) (ps ns : List Float) (o : Header) (qs ms : List Float) : Type 0 where
  caps : h.mode ≡ Plain → intersects (cleared_cap h.cap) (cleared_cap o.cap) ≡ false → Apart h ps ns o qs ms
  edges : is_crossed (contact_of h.mode ps ns h.count qs ms o.count) ≡ false → is_touched (contact_of h.mode ps ns h.count qs ms o.count) ≡ false
      → Unfound h ps o qs ms → Unfound o qs h ps ns → Apart h ps ns o qs ms

-- SCOPE 24: decided before any point is searched, by states, caps, equality or crossings; SCOPE 55: by caps in plain mode alone
pub data Decided (mode : Mode) : Told → Type 0 where
  equal : Decided mode (answer 5)
  full_contains : Decided mode (answer 3)
  caps_apart : mode ≡ Plain → Decided mode (answer 0)
  crossing : Decided mode (answer 2)

-- a header with other marks of reversed and weak
abbrev pub marked : Bool → Bool → Header → Header
marked r w h = record { count = h.count; state = h.state; cap = h.cap; insides = h.insides; reversed = r; weak = w; mode = h.mode }

module _ (h : Header) (ps ns : List Float) (cs : List ℕ) (o : Header) (qs ms : List Float) (ds : List ℕ) where
  pub record Silence : Type 0 where
    -- Disjoint is answered where, in plain mode, the caps do not meet, or where no edges meet and neither loop is found in the other; of a mute one that says
    -- nothing
    pub disjoint_says : relate_answer h ps ns cs o qs ms ds ≡ answer 0 → Apart h ps ns o qs ms
    -- in a mute loop nothing is found, whatever lies in it: it is never the one that contains, and 7 is never given
    pub mute_contains_nothing : mute o ≡ true → lies_in h ps o qs ms ≡ false
    pub within_says : relate_answer h ps ns cs o qs ms ds ≡ answer 4 → mute o ≡ false
    pub containing_says : relate_answer h ps ns cs o qs ms ds ≡ answer 3 → mute h ≡ false
    pub seven_says : relate_answer h ps ns cs o qs ms ds ≡ refused 7 → (mute h ≡ false) × (mute o ≡ false)
    -- neither mark is read: of a weak loop the answer is that of the same loop marked steady, and does not tell that its direction hangs on rounding
    pub marks_unread : (r w r' w' : Bool) → relate_answer (marked r w h) ps ns cs (marked r' w' o) qs ms ds ≡ relate_answer h ps ns cs o qs ms ds
    -- SCOPE 10: a pair that is not refused is searched exactly where the points found decide: each loop in the other or not, and whether edges touch
    pub searched_says : relate_fault h ps ns cs o qs ms ds ≡ 0 → searched h ps ns cs o qs ms ds ≡ true
        → relate_answer h ps ns cs o qs ms ds ≡ by_containment (is_touched (contact_of h.mode ps ns h.count qs ms o.count)) (lies_in h ps o qs ms) (lies_in o qs h ps ns)
    pub unsearched_says : relate_fault h ps ns cs o qs ms ds ≡ 0 → searched h ps ns cs o qs ms ds ≡ false → Decided h.mode (relate_answer h ps ns cs o qs ms ds)
    -- where no midpoint was needed and points were searched, neither point that was found is a midpoint
    pub no_midpoint : needed_midpoint h ps ns cs o qs ms ds ≡ false → searched h ps ns cs o qs ms ds ≡ true → (p : Vec3)
        → (unambiguous_point ps h.count qs ms o.count ≡ Middle p → ⊥) × (unambiguous_point qs o.count ps ns h.count ≡ Middle p → ⊥)
