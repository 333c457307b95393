-- The bytes stand where the part lent from the offset on began.
use Rattle.wire.proofs.Lays.{put_rest}
use Rattle.wire.proofs.put_bytes.Goals as goal

pub returns : goal.returns
returns c = put_rest _ _ _ c.requires c.copy_front.ensures
