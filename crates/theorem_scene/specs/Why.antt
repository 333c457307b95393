-- SCOPE 46, 47, 52: each of the refusals 20 to 28 is given exactly when, at its field, in words over the input's bytes and what was met. Proved in proofs/Exact.antt.
-- Definitions only.
use Rattle.std.specs.Prelude.{ℕ, ◌+◌, ◌*◌, ◌≤◌, ◌<◌, ◌≡◌, List, [], ◌∷◌, length, get_or}
use Rattle.scene_store.specs.declared.Area.{Area}
use Rattle.scene_store.specs.Store.{nobody}
use Rattle.scene_records.specs.declared.Fault.{Fault}
use Rattle.scene_records.specs.Records.{u16_of, u32_of, length_field, kind_field, body_field, number_field, fault_number}
use Rattle.scene_notes.specs.Noted.{Scene}
use Rattle.scene_steps.specs.Steps.{Step, faulty, step}
use Rattle.scene_run.specs.Run.{too_long, scene_told}

-- ---- the record at an offset, and its bytes (SCOPE 28)
abbrev pub length_of : List ℕ → ℕ → ℕ
length_of s at = u32_of s (length_field at)

abbrev pub kind_of : List ℕ → ℕ → ℕ
kind_of s at = u16_of s (kind_field at)

-- fewer than six bytes are left, or the body ends past the input
pub data Short (s : List ℕ) (at : ℕ) : Type 0 where
  in_head : at < length s → length s < at + 6 → Short s at
  in_body : at + 6 ≤ length s → length s < at + 6 + length_of s at → Short s at

-- all its bytes are there
abbrev pub Whole : List ℕ → ℕ → Type 0
Whole s at = at + 6 + length_of s at ≤ length s

-- the four kinds
pub data Known : ℕ → Type 0 where
  area : Known 1
  place : Known 2
  pair : Known 3
  far : Known 4

-- the length that a kind asks for: an area has its number and 24 bytes a position, a place and a far an area's number and a position, a pair two numbers
pub data Fits : ℕ → ℕ → Type 0 where
  area : (count : ℕ) → Fits 1 (2 + 24 * count)
  place : Fits 2 26
  pair : Fits 3 4
  far : Fits 4 26

-- a whole record of a kind, with the length that it asks for
pub record Formed (s : List ℕ) (at kind size : ℕ) : Type 0 where
  pub whole : Whole s at
  pub of_kind : kind_of s at ≡ kind
  pub of_size : length_of s at ≡ size

abbrev pub IsArea : List ℕ → ℕ → ℕ → Type 0
IsArea s at count = Formed s at 1 (2 + 24 * count)

-- a place or a far: the number of an area, and one position
pub data IsPlace (s : List ℕ) (at : ℕ) : Type 0 where
  place : Formed s at 2 26 → IsPlace s at
  far : Formed s at 4 26 → IsPlace s at

-- an area's number stands where the body starts
abbrev pub number_of : List ℕ → ℕ → ℕ
number_of s at = u16_of s (body_field at)

-- the numbers that a place, a pair or a far names
pub data Asks (s : List ℕ) (at : ℕ) : List ℕ → Type 0 where
  place : IsPlace s at → Asks s at (number_of s at ∷ [])
  pair : Formed s at 3 4 → Asks s at (number_of s at ∷ u16_of s (at + 8) ∷ [])

-- the area numbers of a record: an area's own, or those that it names
pub data Numbers (s : List ℕ) (at : ℕ) : List ℕ → Type 0 where
  own : (count : ℕ) → IsArea s at count → Numbers s at (number_of s at ∷ [])
  named : {numbers : List ℕ} → Asks s at numbers → Numbers s at numbers

-- ---- what was met
-- an earlier area record had the number
pub record Met (areas : List Area) (number : ℕ) : Type 0 where
  pub index : ℕ
  pub within : index < length areas
  pub same : (get_or areas index nobody).number ≡ number

-- none had
abbrev pub Unmet : List Area → ℕ → Type 0
Unmet areas number = (i : ℕ) → i < length areas → (get_or areas i nobody).number ≡ number → ⊥

-- none of the numbers is zero
abbrev pub NonZero : List ℕ → Type 0
NonZero numbers = (i : ℕ) → i < length numbers → get_or numbers i 0 ≡ 0 → ⊥

-- an area record that may be new: its number is neither zero nor that of an earlier one
pub record New (s : List ℕ) (w : Scene) (count : ℕ) : Type 0 where
  pub formed : IsArea s w.at count
  pub numbered : number_of s w.at ≡ 0 → ⊥
  pub unmet : Unmet w.areas (number_of s w.at)

-- ---- SCOPE 46: what the record of a scene is refused for, and at which field; SCOPE 47: 20 to 27 in the order of their numbers, over all fields of the record
-- 20: cut short, at the input's end
pub data Why20 (s : List ℕ) (w : Scene) : ℕ → Type 0 where
  why : Short s w.at → Why20 s w (length s)

-- 21: an unknown kind, at the kind
pub data Why21 (s : List ℕ) (w : Scene) : ℕ → Type 0 where
  why : Whole s w.at → (Known (kind_of s w.at) → ⊥) → Why21 s w (kind_field w.at)

-- 22: a length that is wrong for the kind, at the length
pub data Why22 (s : List ℕ) (w : Scene) : ℕ → Type 0 where
  why : Whole s w.at → Known (kind_of s w.at) → (Fits (kind_of s w.at) (length_of s w.at) → ⊥) → Why22 s w (length_field w.at)

-- 23: an area number zero, at the first that is
pub data Why23 (s : List ℕ) (w : Scene) : ℕ → Type 0 where
  why : (numbers : List ℕ) → Numbers s w.at numbers → (i : ℕ) → i < length numbers → get_or numbers i 0 ≡ 0 → ((j : ℕ) → j < i → get_or numbers j 0 ≡ 0 → ⊥)
      → Why23 s w (number_field w.at i)

-- 24: an area whose number an earlier area record had, at the number
pub data Why24 (s : List ℕ) (w : Scene) : ℕ → Type 0 where
  why : (count : ℕ) → IsArea s w.at count → (number_of s w.at ≡ 0 → ⊥) → Met w.areas (number_of s w.at) → Why24 s w (body_field w.at)

-- 25: a place, a pair or a far that names a number which no earlier area record had, at the first such number
pub data Why25 (s : List ℕ) (w : Scene) : ℕ → Type 0 where
  why : (numbers : List ℕ) → Asks s w.at numbers → NonZero numbers → (i : ℕ) → i < length numbers → Unmet w.areas (get_or numbers i 0)
      → ((j : ℕ) → j < i → Met w.areas (get_or numbers j 0)) → Why25 s w (number_field w.at i)

-- 26: a 17th area, at the number
pub data Why26 (s : List ℕ) (w : Scene) : ℕ → Type 0 where
  why : (count : ℕ) → New s w count → 16 ≤ length w.areas → Why26 s w (body_field w.at)

-- 27: more than 1,024 given positions with this area's, at the length
pub data Why27 (s : List ℕ) (w : Scene) : ℕ → Type 0 where
  why : (count : ℕ) → New s w count → length w.areas < 16 → 1024 < w.given + count → Why27 s w (length_field w.at)

-- ---- each is given exactly when
-- a record comes to the fault of a number, at a field
pub record Gives (x : Step) (number field : ℕ) : Type 0 where
  pub fault : Fault
  pub numbered : fault_number fault ≡ number
  pub is : x ≡ faulty fault field

pub record GivenWhen (s : List ℕ) (w : Scene) (number : ℕ) (Why : ℕ → Type 0) : Type 0 where
  pub given_why : (field : ℕ) → Gives (step s w) number field → Why field
  pub why_given : (field : ℕ) → Why field → Gives (step s w) number field

-- 28: more than 65,536 bytes
pub record TooLong (s : List ℕ) : Type 0 where
  pub given_why : (scene_told s).ending ≡ too_long → 65536 < length s
  pub why_given : 65536 < length s → (scene_told s).ending ≡ too_long
  -- judged first, with no line before it
  pub first : 65536 < length s → (scene_told s).lines ≡ []

-- for every input, and whatever was met at the record reached
pub record Exact (s : List ℕ) (w : Scene) : Type 0 where
  pub of_20 : GivenWhen s w 20 (Why20 s w)
  pub of_21 : GivenWhen s w 21 (Why21 s w)
  pub of_22 : GivenWhen s w 22 (Why22 s w)
  pub of_23 : GivenWhen s w 23 (Why23 s w)
  pub of_24 : GivenWhen s w 24 (Why24 s w)
  pub of_25 : GivenWhen s w 25 (Why25 s w)
  pub of_26 : GivenWhen s w 26 (Why26 s w)
  pub of_27 : GivenWhen s w 27 (Why27 s w)
  pub of_28 : TooLong s
