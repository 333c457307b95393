-- SCOPE 54, 55: the mode that a loop is built in is stored in its header, and nothing else of building goes by it. Proved in proofs/Modes.antt.
-- Definitions only.
use Rattle.std.specs.Prelude.{ℕ, ◌≡◌, List, Float}
use Rattle.minor_arc.specs.declared.Mode.{Mode}
use Rattle.loop_header.specs.declared.Header.{Header}
use Rattle.loop_build.specs.Build.{Told, refused, loop, Outcome, kept, build_outcome}

-- the same in a mode: a header, an answer, and what a call comes to
abbrev pub header_in : Mode → Header → Header
header_in mode h = record { count = h.count; state = h.state; cap = h.cap; insides = h.insides; reversed = h.reversed; weak = h.weak; mode = mode }

abbrev pub told_in : Mode → Told → Told
told_in mode (refused k) = refused k
told_in mode (loop h) = loop (header_in mode h)

abbrev pub outcome_in : Mode → Outcome → Outcome
outcome_in mode o = kept (told_in mode o.answer) o.positions o.normals o.classes

pub record Modes (l ps ns : List Float) (cs : List ℕ) : Type 0 where
  pub stored : (mode : Mode) (h : Header) → (build_outcome mode l ps ns cs).answer ≡ loop h → h.mode ≡ mode
  pub nothing_else : (mode other : Mode) → outcome_in other (build_outcome mode l ps ns cs) ≡ build_outcome other l ps ns cs
