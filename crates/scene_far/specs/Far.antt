-- SCOPE 30, 52: what an area in the store says of one position, where it lies or how far it is from the border. `SameRefusals` is proved in
-- proofs/Refusals.antt. Definitions only.
use Rattle.std.specs.Prelude.{ℕ, ◌≡◌, Bool, cond, List, Float, Result, Ok, Err}
use Rattle.std.specs.Float.{binary64}
use Rattle.std.specs.Float.Ieee.{to_bits}
use Rattle.vec3.specs.declared.Vec3.{Vec3}
use Rattle.judge.specs.declared.Refusal.{Refusal}
use Rattle.judge.specs.Refusals.{number}
use Rattle.loop_ask.specs.Answers as Ask
use Rattle.loop_distances.specs.Distances as Far
use Rattle.loop_distances.specs.Distances.{boundary_answer}
use Rattle.scene_lines.specs.declared.Line as L
use Rattle.scene_lines.specs.declared.Line.TheVariants as Line
use Rattle.scene_store.specs.declared.Area.{Area}
use Rattle.scene_store.specs.Store.{corners, codes, place_in}
use Rattle.scene_far.specs.Said.{Said}
use Rattle.scene_far.specs.Said as Said

-- SCOPE 50: of an area's own part of the store
unfoldable pub far_in : Area → List Float → List Float → List ℕ → Vec3 → Far.Told
far_in a ps ns cs p = boundary_answer a.header (corners a ps) (corners a ns) (codes a cs) p

-- what a function says, by cases
abbrev pub told_said : Result L.Line Refusal → Said
told_said (Ok line) = Said.Line line
told_said (Err r) = Said.Refused (number r)

-- the refusal, or the line with the answer's number
abbrev pub place_said : ℕ → Ask.Told → Said
place_said number (Ask.refused k) = Said.Refused k
place_said number (Ask.answer n) = Said.Line (Line.Place number n)

-- SCOPE 52: the refusal, or the line with the bits of the squared chord
abbrev pub far_said : ℕ → Far.Told → Said
far_said number (Far.refused k) = Said.Refused k
far_said number (Far.chord c) = Said.Line (Line.Far number (to_bits binary64 c.0))

-- kind 4 asks how far, kind 2 where
unfoldable pub said_in : Bool → ℕ → Area → List Float → List Float → List ℕ → Vec3 → Said
said_in far number a ps ns cs p = cond far (far_said number (far_in a ps ns cs p)) (place_said number (place_in a ps ns cs p))

-- SCOPE 52: of one position a far is refused exactly where a place is, with the same number
pub record SameRefusals : Type 0 where
  pub far_place : (a : Area) (ps ns : List Float) (cs : List ℕ) (p : Vec3) (k : ℕ) → far_in a ps ns cs p ≡ Far.refused k → place_in a ps ns cs p ≡ Ask.refused k
  pub place_far : (a : Area) (ps ns : List Float) (cs : List ℕ) (p : Vec3) (k : ℕ) → place_in a ps ns cs p ≡ Ask.refused k → far_in a ps ns cs p ≡ Far.refused k
