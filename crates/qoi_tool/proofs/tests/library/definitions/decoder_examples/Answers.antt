-- The bytes that are taken are counted.
use Rattle.std.proofs.Common.{refl, arith, replicate}
use Rattle.qoi_tool.proofs.tests.library.definitions.decoder_examples.Goals as goal

pub returns-clause-within : goal.returns-clause-within
returns-clause-within c = (replicate 13 0, refl, omega arith)
