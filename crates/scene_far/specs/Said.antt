-- What an area says of a position: a refusal's number, or the line. Definitions only.
use Rattle.std.specs.Prelude.{ℕ}
use Rattle.scene_lines.specs.declared.Line as L

pub data Said : Type 0 where
  Refused : ℕ → Said
  Line : L.Line → Said
