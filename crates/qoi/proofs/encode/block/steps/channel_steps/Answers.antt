-- Each lane less the one before.
use Rattle.qoi.proofs.encoding.lanes.Lanewise.{two, again}
use Rattle.qoi.proofs.encode.block.steps.channel_steps.Goals as goal

pub returns-clause-steps : goal.returns-clause-steps
returns-clause-steps c = λ ls f v w. two _ v (again _ c.shift_in.ensures w)
