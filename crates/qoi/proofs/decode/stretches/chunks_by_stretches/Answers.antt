-- Chunks of noise, if any, and a stretch more.
use Rattle.std.proofs.Common.{◌+◌, arith}
use Rattle.qoi.specs.inner.Filling.{FastChunks}
use Rattle.qoi.proofs.decoding.FastSteps.{chunks_then, front_chunks}
use Rattle.qoi.proofs.decode.stretches.chunks_by_stretches.Given.{Over}
use Rattle.qoi.proofs.decode.stretches.chunks_by_stretches.Goals.{After-fast_loop-stretch}
use Rattle.qoi.proofs.decode.stretches.chunks_by_stretches.Goals as goal

-- after a stretch, which is the front of the bytes
stretch : (g : Over) (c : After-fast_loop-stretch g) → FastChunks c.args.bytes.now c.args.from c.args.table.now c.args.out.now
    c.fast_loop-stretch.result c.fast_loop-stretch.new.table c.fast_loop-stretch.new.out
stretch g c =
    chunks_then (omega (arith, c.take_dense-dense.auto.out, c.loop-now.auto.out)) (chunks_then c.loop-now.auto.out c.loop-now.invariant.0 c.take_dense-dense.ensures)
    (front_chunks (c.min-stretch_end.result + 22) (omega (arith, c.min-stretch_end.ensures, c.requires.input_is))
    (omega (arith, c.min-stretch_end.ensures, c.take_dense-dense.ensures.taken, c.loop-now-test.true, c.requires.input_is)) c.fast_loop-stretch.ensures)

pub loop-now-preserved : goal.loop-now-preserved
loop-now-preserved g c =
    (rw c.by_fields-now-in-loop-now.ensures (rw c.note_dense.ensures (stretch g (goal.at.loop-now-preserved g c).After-fast_loop-stretch)), omega arith)

pub returns-then-stretch-stretch_end : goal.returns-then-stretch-stretch_end
returns-then-stretch-stretch_end g c = rw c.by_fields.ensures (stretch g (goal.at.returns-then-stretch-stretch_end g c).After-fast_loop-stretch)
