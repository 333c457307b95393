-- SCOPE 42: the ends of the exact angle are honest, all that specs/Gregory says of them. Assumes nothing.
use Rattle.exact_angles.specs.Gregory.{Honest}
use Rattle.exact_angles.proofs.Leibniz.{lower_agrees, upper_agrees}
use Rattle.exact_angles.proofs.Plane.{around_closing}
use Rattle.exact_angles.proofs.Uncut.{gregory_uncut, half_uncut, whole_uncut}
use Rattle.exact_angles.proofs.Sane.{pi_digits}

pub honest : Honest
honest = record {
  lower_agrees = lower_agrees;
  upper_agrees = upper_agrees;
  one_value = around_closing;
  gregory_uncut = gregory_uncut;
  half_uncut = half_uncut;
  whole_uncut = whole_uncut;
  pi_digits = pi_digits;
}
