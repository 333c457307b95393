-- One answer and one final state: over the postcondition of `build` itself, so that an `ensures` that says less breaks this. Assumes nothing.
use mathlib.Core.Path.{◌≡◌, refl, sym, ap, ◌∙◌}
use Rattle.std.specs.Prelude.{Result, Ok, Err}
use Rattle.outcomes.specs.Outcomes.{One, OneToOne}
use Rattle.outcomes.proofs.Outcomes.{by_back}
use Rattle.judge.specs.declared.Refusal.{Refusal}
use Rattle.judge.proofs.Numbers.{named, named_number}
use Rattle.loop_header.specs.declared.Header.{Header}
use Rattle.loop_build.specs.Build.{Told, refused, loop, told, Outcome}
use Rattle.loop_build.proofs.build as Building

-- the answer by cases tells each answer from every other
back : Told → Result Header Refusal
back (refused k) = Err (named k)
back (loop h) = Ok h

there_and_back : (x : Result Header Refusal) → back (told x) ≡ x
unfolding back
there_and_back (Err r) = ap Err (named_number r)
there_and_back (Ok h) = refl

pub told_apart : OneToOne told
told_apart = by_back told back there_and_back

-- the answer, and positions, normals and classes at exit
pub build_unique : One Building.Kinds.ps Building.Kinds.r Building.Reads.Post
build_unique κs a x y v w p q =
    let e = p ∙ sym q in
    (told_apart x y (ap (λ (o : Outcome). o.answer) e), ap (λ (o : Outcome). (tt, (tt, (o.positions, (o.normals, (o.classes, tt)))))) e)
