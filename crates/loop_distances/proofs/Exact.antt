-- Each refusal of the two functions is given exactly when SCOPE 25 says, in the order of SCOPE 26: both directions. Assumes nothing.
use Prim.Native.Nat.{ℕ, suc}
use mathlib.Core.Path.{refl}
use Rattle.vec3.specs.Vec.{cleared}
use Rattle.judge.specs.Why.{Exactly, Refuses}
use Rattle.judge.proofs.Exactly.{refuses}
use Rattle.chord_length.specs.declared.ChordLength.{ChordLength}
use Rattle.arcs.specs.Answers.{cleared_arc}
use Rattle.arcs.proofs.Exact as Arcs
use Rattle.loop_ask.proofs.Exact as Loops
use Rattle.loop_distances.specs.Distances.{Told, refused, chord, judged, arc_told, boundary_told}
use Rattle.loop_distances.specs.Why.{Exact}

-- what is told of no refusal is a squared chord
abbrev number : Told → ℕ
number (refused k) = suc k
number (chord c) = 0

judged_exact : {given : ℕ} {Why : ℕ → Type 0} → Exactly given Why → (c : ChordLength) → Refuses refused (judged given c) Why
judged_exact x c = refuses refused number (λ k. refl) x (λ z. rw z) (λ k e. rw e)

pub exact : Exact
unfolding arc_told boundary_told
exact = record {
  arc = λ a p. judged_exact (Arcs.query_exact (cleared_arc a) (cleared p)) _;
  boundary = λ h ps ns cs p. judged_exact (Loops.query_exact h ps ns cs (cleared p)) _;
}
