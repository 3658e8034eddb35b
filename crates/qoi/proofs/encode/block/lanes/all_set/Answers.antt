-- The bits of the lanes.
use Rattle.qoi.proofs.encoding.lanes.LaneMasks.{all_bits}
use Rattle.qoi.proofs.encode.block.lanes.all_set.Goals as goal

pub returns : goal.returns
returns c = λ bs long is. all_bits bs c.args.v long is
