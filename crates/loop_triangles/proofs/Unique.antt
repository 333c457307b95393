-- One outcome of each call: over the postconditions of `triangulate` and `accepts` themselves, so that an `ensures` that says less breaks this. Assumes nothing.
use Prim.Native.Nat.{ℕ}
use mathlib.Core.Path.{◌≡◌, refl, sym, ap, ◌∙◌}
use Rattle.std.specs.Prelude.{Result, Ok, Err}
use Rattle.outcomes.specs.Outcomes.{One, OneToOne}
use Rattle.outcomes.proofs.Outcomes.{by_back}
use Rattle.judge.specs.declared.Refusal.{Refusal}
use Rattle.judge.proofs.Numbers.{named, named_number}
use Rattle.loop_ask.specs.Answers.{Told, refused, answer}
use Rattle.loop_ask.proofs.Unique.{one_answered}
use Rattle.loop_triangles.specs.Triangles.{Outcome, told_cut}
use Rattle.loop_triangles.proofs.triangulate as Cutting
use Rattle.loop_triangles.proofs.accepts as Checking

back : Told → Result ℕ Refusal
back (refused k) = Err (named k)
back (answer n) = Ok n

there_and_back : (x : Result ℕ Refusal) → back (told_cut x) ≡ x
unfolding back
there_and_back (Err r) = ap Err (named_number r)
there_and_back (Ok n) = refl

pub one_cut : OneToOne told_cut
one_cut = by_back told_cut back there_and_back

-- the answer, and the triangles at exit
pub triangulate_unique : One Cutting.Kinds.ps Cutting.Kinds.r Cutting.Reads.Post
triangulate_unique κs a x y v w p q =
    let e = p ∙ sym q in
    (one_cut x y (ap (λ (o : Outcome). o.answer) e), ap (λ (o : Outcome). (tt, (tt, (tt, (o.triangles, tt))))) e)

pub accepts_unique : One Checking.Kinds.ps Checking.Kinds.r Checking.Reads.Post
accepts_unique κs a x y v w p q = (one_answered x y (p ∙ sym q), refl)
