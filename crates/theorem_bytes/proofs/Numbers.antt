-- What is answered as a number, of what is told by cases. Assumes nothing.
use Prim.Native.Nat.{ℕ, ◌≤◌}
use mathlib.Core.Path.{◌≡◌, refl, ap}
use mathlib.Core.List.{List}
use Rattle.loop_header.specs.declared.State.{State}
use Rattle.loop_header.specs.declared.State.TheVariants.{Empty, Full, Ring}
use Rattle.loop_header.specs.declared.Header.{Header}
use Rattle.loop_ask.specs.Answers.{Told, refused, answer}
use Rattle.bytes_ask.specs.Ask.{number_of}
use Rattle.bytes_cut.specs.Cut.{triples_by, told_outcome}
use Rattle.theorem_built.specs.Built as B
use Rattle.theorem_built.specs.Built.{Answers, triangle_count}
use Rattle.theorem_bytes.specs.Returned.{Cut, all, no_ear, Checked, Related, related, each_in_other, modes_differ}

pub number : (m : ℕ) (t : Told) → Answers m t → number_of t ≤ m
number m t a = rw a.is a.most

pub triples_same : (s : State) (n : ℕ) → triples_by s n ≡ triangle_count s n
triples_same Empty n = refl
triples_same Full n = refl
triples_same Ring n = refl

pub cut_number : (h : Header) (t : Told) → B.Cut h t → Cut h (number_of t)
cut_number h _ B.all = rw (← triples_same h.state h.count) all
cut_number h _ (B.no_ear s c) = no_ear s c

-- with triangles in bytes
pub laid_number : (t : Told) (l out : List ℕ) → (told_outcome t l out).number ≡ number_of t
laid_number (refused f) l out = refl
laid_number (answer n) l out = refl

pub check_number : (s : State) (t : Told) → B.Checked s t → Checked s (number_of t)
check_number Empty t e = ap number_of e
check_number Full t e = ap number_of e
check_number Ring t a = number 1 t a

pub pair_number : (h o : Header) (t : Told) → B.Related h o t → Related h o (number_of t)
pair_number h o t (B.related m a) = related m (number 5 t a)
pair_number h o _ (B.each_in_other m p q) = each_in_other m p q
pair_number h o _ (B.modes_differ d) = modes_differ d
