-- What is read from standard input. SCOPE 31: a failed read is not the end of the input. Definitions only.
use Rattle.std.specs.Prelude.{ℕ, ◌≤◌, ◌≡◌, Bool, false, List, eqb, length, take, Result, Ok, Err, ℤ, pos, negsuc}

-- what one read into room for n bytes may answer: -1, or how many bytes it moved, at most n
abbrev pub Moved : ℕ → ℤ → Type 0
Moved n (pos k) = k ≤ n
Moved n (negsuc k) = k ≡ 0

-- a reader's answer as the C library gives it: how many bytes it moved, or -1 for an error
abbrev pub moved_of : {E : Type 0} → Result ℕ E → ℤ
moved_of (Ok k) = pos k
moved_of (Err e) = negsuc 0

-- how many bytes one read put, by its answer
abbrev pub count_of : {E : Type 0} → Result ℕ E → ℕ
count_of (Ok k) = k
count_of (Err e) = 0

-- what reading came to, by the answer of the call that ended it: an error is a failure, 0 the end of the input after `done` bytes
abbrev pub ended_of : {E : Type 0} → Result ℕ E → ℕ → Result ℕ E
ended_of (Ok k) done = Ok done
ended_of (Err e) done = Err e

-- so many bytes are at the start of the buffer. The second part follows from the first; lending them needs both.
abbrev pub Within : {E : Type 0} → Result ℕ E → List ℕ → Type 0
Within (Ok n) l = (n ≤ length l) × (n ≡ length (take n l))
Within (Err e) l = Unit

-- all of a part of the input whose size is known has come
abbrev pub is_whole : {E : Type 0} → Result ℕ E → ℕ → Bool
is_whole (Ok n) size = eqb n size
is_whole (Err e) size = false
