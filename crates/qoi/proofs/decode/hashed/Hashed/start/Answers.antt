-- Opaque black has index position 53.
use Rattle.std.proofs.Common.{refl}
use Rattle.qoi.specs.Qoi.{hash, start}
use Rattle.qoi.proofs.decode.hashed.Hashed.start.Goals as goal

pub invariant_of-result : goal.invariant_of-result
unfolding hash
invariant_of-result c = refl

pub returns : goal.returns
unfolding start
returns c = refl
