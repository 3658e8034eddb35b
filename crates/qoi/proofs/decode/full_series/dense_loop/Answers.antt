-- One chunk after the other.
use Rattle.std.proofs.Common.{arith}
use Rattle.qoi.specs.inner.Filling.{FastChunks}
use Rattle.qoi.proofs.decoding.FastSteps.{step_then, step_more, chunks_then}
use Rattle.qoi.proofs.decode.full_series.dense_loop.Given.{Over}
use Rattle.qoi.proofs.decode.full_series.dense_loop.Goals.{After-short_chunks-now}
use Rattle.qoi.proofs.decode.full_series.dense_loop.Goals as goal

-- after two short chunks
two : (g : Over) (c : After-short_chunks-now g) → FastChunks c.args.bytes.now c.args.from c.args.table.now c.args.out.now
    c.short_chunks-now.result c.short_chunks-now.new.table c.short_chunks-now.new.out
two g c =
    let short = step_then c.short_chunks-one.ensures.step c.short_chunks-now.ensures.step in
    step_more c.loop-now.invariant short (omega (arith, short.taken, c.loop-now-test.true, c.requires.input_is)) (omega (arith, short.written, c.if-now-output_end.true, c.requires.room_is))

pub loop-now-preserved-then-is_short : goal.loop-now-preserved-then-is_short
loop-now-preserved-then-is_short g c = two g (goal.at.loop-now-preserved-then-is_short g c).After-short_chunks-now

pub loop-now-preserved-then-now : goal.loop-now-preserved-then-now
loop-now-preserved-then-now g c =
    chunks_then (omega (arith, c.short_chunks-now.auto.out, c.short_chunks-one.auto.out, c.loop-now.auto.out))
    (two g (goal.at.loop-now-preserved-then-now g c).After-short_chunks-now) c.series_of-now.ensures.chunks

pub loop-now-preserved : goal.loop-now-preserved
loop-now-preserved g c =
    chunks_then (omega (arith, c.short_chunks-now.auto.out, c.short_chunks-one.auto.out, c.loop-now.auto.out))
    (two g (goal.at.loop-now-preserved g c).After-short_chunks-now) c.series_of-now-then-now-2.ensures.chunks

pub returns-else-now-2 : goal.returns-else-now-2
returns-else-now-2 g c = rw c.by_fields.ensures (two g (goal.at.returns-else-now-2 g c).After-short_chunks-now)
