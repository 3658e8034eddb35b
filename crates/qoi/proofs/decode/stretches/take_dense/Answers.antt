-- The bytes in front are some of all.
use Rattle.std.proofs.Common.{arith}
use Rattle.qoi.proofs.decoding.FastSteps.{front_chunks}
use Rattle.qoi.proofs.decode.stretches.take_dense.Goals as goal

pub returns : goal.returns
returns g c =
    rw c.note_dense.ensures
    (front_chunks c.min-end.result (omega (arith, c.min-end.ensures)) (omega (arith, c.min-end.ensures, c.requires.ahead.input_is)) c.dense_loop-dense.ensures)
