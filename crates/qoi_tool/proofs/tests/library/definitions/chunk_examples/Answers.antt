-- Examples that a search doesn't compute.
use Rattle.std.proofs.Common.{[], ◌∷◌, arith, rules, refl}
use Rattle.qoi.specs.Qoi.{pixel}
use Rattle.qoi_tool.proofs.tests.library.definitions.chunk_examples.Goals as goal

pub returns-clause-no_byte : goal.returns-clause-no_byte
returns-clause-no_byte c are = absurd (omega (arith, are 0))

pub returns-clause-begins : goal.returns-clause-begins
returns-clause-begins c = (search rules, pixel 5 6 7 8 ∷ [], refl)

pub returns-clause-begins_not : goal.returns-clause-begins_not
returns-clause-begins_not c begins = let e = begins.2 in cc
