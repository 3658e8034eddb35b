-- Lane by lane.
use Rattle.qoi.proofs.encoding.lanes.LaneMasks.{lanes_are}
use Rattle.qoi.proofs.encode.block.lanes.where_is.Goals as goal

pub returns : goal.returns
returns c = lanes_are c.args.n 16 c.args.v c.fits-v.0
