-- The masks of four packed pixels.
use Rattle.qoi.proofs.encoding.lanes.StandMasks.{equal_is}
use Rattle.qoi.proofs.encode.block.positions.equal.Goals as goal

pub returns : goal.returns
returns c = λ qs ps found are. equal_is qs ps c.args.found c.args.pixels found are
