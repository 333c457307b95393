-- A list that is not in positions, or is too long, is refused; any other is read into work arrays of the bytes' room and built there.
use Rattle.bytes_build.proofs.Builds.{unread, too_long_lem, in_bytes}
use Rattle.bytes_build.proofs.built.Goals as goal

pub returns-then-list-ne0 : goal.returns-then-list-ne0
returns-then-list-ne0 c = unread _ _ _ c.if-list-ne0.true

pub returns-then-m-gt512 : goal.returns-then-m-gt512
returns-then-m-gt512 c = too_long_lem _ _ _ c.if-list-ne0.false c.if-m-gt512.true

pub returns : goal.returns
returns c = in_bytes _ _ _ c.if-list-ne0.false c.build_in.ensures
