-- Lane by lane.
use Rattle.qoi.proofs.encoding.lanes.LaneMasks.{greater_lanes}
use Rattle.qoi.proofs.encode.block.lanes.greater.Goals as goal

pub returns : goal.returns
returns c = greater_lanes c.args.v c.args.w
