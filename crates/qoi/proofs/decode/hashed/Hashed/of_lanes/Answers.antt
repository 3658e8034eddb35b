-- The product has the index position in its six highest bits.
use Rattle.std.proofs.Common.{arith}
use Rattle.qoi.specs.Qoi.{hash}
use Rattle.qoi.proofs.decode.hashed.Hashed.of_lanes.Goals as goal

pub invariant_of-result : goal.invariant_of-result
unfolding hash
invariant_of-result c = omega (arith, c.requires)
