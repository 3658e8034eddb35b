-- The bits of the lanes that are 0.
use Rattle.qoi.proofs.encoding.lanes.LaneMasks.{unset_marks}
use Rattle.qoi.proofs.encode.block.lanes.unset_bits.Goals as goal

pub returns : goal.returns
returns c = λ bs long is. unset_marks bs c.args.v long is
