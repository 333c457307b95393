-- A far is refused as a place is: both are refused for the loop and then for the position. Assumes nothing.
use Prim.Native.Nat.{ℕ, zero, suc}
use mathlib.Core.Path.{◌≡◌, ap}
use mathlib.Core.Bool.{Bool, true, false}
use mathlib.Core.List.{List}
use native.Mathlib.Omega.{arith}
use lib.Ieee.{Float}
use Rattle.vec3.specs.declared.Vec3.{Vec3}
use Rattle.vec3.specs.Vec.{cleared}
use Rattle.chord_length.specs.declared.ChordLength.{ChordLength}
use Rattle.loop_ask.specs.Answers as Ask
use Rattle.loop_ask.specs.Places.{place_of}
use Rattle.loop_ask.specs.Questions.{query_fault, place_answer}
use Rattle.loop_distances.specs.Distances as Far
use Rattle.scene_store.specs.declared.Area.{Area}
use Rattle.scene_store.specs.Store.{corners, codes, place_in}
use Rattle.scene_far.specs.Said as Said
use Rattle.scene_far.specs.Far.{far_in, place_said, far_said, said_in, SameRefusals}

-- by the number of the fault, 0 for none
far_by : (fault n k : ℕ) (c : ChordLength) → Far.judged fault c ≡ Far.refused k → Ask.judged fault (Ask.answer n) ≡ Ask.refused k
far_by zero n k c e = absurd (let z : ◌≡◌ {A = ℕ} 0 1 = cc in omega arith)
far_by (suc fault) n k c e = let q : suc fault ≡ k = cc in ap Ask.refused q

place_by_lem : (fault n k : ℕ) (c : ChordLength) → Ask.judged fault (Ask.answer n) ≡ Ask.refused k → Far.judged fault c ≡ Far.refused k
place_by_lem zero n k c e = absurd (let z : ◌≡◌ {A = ℕ} 0 1 = cc in omega arith)
place_by_lem (suc fault) n k c e = let q : suc fault ≡ k = cc in ap Far.refused q

module _ (a : Area) (ps ns : List Float) (cs : List ℕ) (p : Vec3) where
  -- what both are refused for, and what each would answer
  abbrev fault : ℕ
  fault = query_fault a.header (corners a ps) (corners a ns) (codes a cs) (cleared p)

  abbrev place : ℕ
  place = place_of a.header (corners a ps) (corners a ns) (cleared p)

  abbrev chord : ChordLength
  chord = Far.far (corners a ps) (corners a ns) a.header.count (cleared p)

  far_place : (k : ℕ) → far_in a ps ns cs p ≡ Far.refused k → place_in a ps ns cs p ≡ Ask.refused k
  unfolding far_in place_in Far.boundary_told place_answer
  far_place k e = far_by fault place k chord e

  place_far : (k : ℕ) → place_in a ps ns cs p ≡ Ask.refused k → far_in a ps ns cs p ≡ Far.refused k
  unfolding far_in place_in Far.boundary_told place_answer
  place_far k e = place_by_lem fault place k chord e

pub same_refusals : SameRefusals
same_refusals = record { far_place = far_place; place_far = place_far }

-- what is said of either
place_told_lem : (number k : ℕ) (t : Ask.Told) → place_said number t ≡ Said.Refused k → t ≡ Ask.refused k
place_told_lem number k (Ask.refused n) e = let q : n ≡ k = cc in ap Ask.refused q
place_told_lem number k (Ask.answer n) e = absurd (let z : ◌≡◌ {A = ℕ} 0 1 = cc in omega arith)

far_told_lem : (number k : ℕ) (t : Far.Told) → far_said number t ≡ Said.Refused k → t ≡ Far.refused k
far_told_lem number k (Far.refused n) e = let q : n ≡ k = cc in ap Far.refused q
far_told_lem number k (Far.chord c) e = absurd (let z : ◌≡◌ {A = ℕ} 0 1 = cc in omega arith)

pub said_refused : (far : Bool) (number : ℕ) (a : Area) (ps ns : List Float) (cs : List ℕ) (p : Vec3) (k : ℕ) → said_in far number a ps ns cs p ≡ Said.Refused k → place_in a ps ns cs p ≡ Ask.refused k
unfolding said_in
said_refused true number a ps ns cs p k e = same_refusals.far_place a ps ns cs p k (far_told_lem number k (far_in a ps ns cs p) e)
said_refused false number a ps ns cs p k e = place_told_lem number k (place_in a ps ns cs p) e
