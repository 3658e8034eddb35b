-- Lane by lane.
use Rattle.qoi.proofs.encoding.lanes.LaneMasks.{lesser_lanes}
use Rattle.qoi.proofs.encode.block.lanes.lesser.Goals as goal

pub returns : goal.returns
returns c = lesser_lanes c.args.v c.args.w
