-- One chunk after the other.
use Rattle.std.proofs.Common.{arith}
use Rattle.qoi.specs.inner.Filling.{FastChunks}
use Rattle.qoi.proofs.decoding.FastSteps.{step_more}
use Rattle.qoi.proofs.decode.fast.Progress.fast_loop.Given.{Over}
use Rattle.qoi.proofs.decode.fast.Progress.fast_loop.Goals.{After-short_series-now}
use Rattle.qoi.proofs.decode.fast.Progress.fast_loop.Goals as goal

-- after a series of short chunks
series : (g : Over) (c : After-short_series-now g) → FastChunks c.args.bytes.now c.args.self c.args.table.now c.args.out.now
    c.short_series-now.result c.short_series-now.new.table c.short_series-now.new.out
series g c =
    let short = c.short_series-now.ensures.step in
    step_more c.loop-now.invariant short (omega (arith, short.taken, c.loop-now-test.true, c.requires.input_is))
    (omega (arith, short.written, c.loop-now-test.true, c.requires.room_is))

pub loop-now-preserved-then-is_short : goal.loop-now-preserved-then-is_short
loop-now-preserved-then-is_short g c = series g (goal.at.loop-now-preserved-then-is_short g c).After-short_series-now

pub loop-now-preserved-then-now-ge-QOI_OP_RGB : goal.loop-now-preserved-then-now-ge-QOI_OP_RGB
loop-now-preserved-then-now-ge-QOI_OP_RGB g c =
    let short = c.short_series-now.ensures.step in
    let full = c.full_chunk-now.ensures in
    step_more (series g (goal.at.loop-now-preserved-then-now-ge-QOI_OP_RGB g c).After-short_series-now) full
    (omega (arith, full.taken, short.taken, c.loop-now-test.true, c.requires.input_is)) (omega (arith, short.written, full.written, c.loop-now-test.true, c.requires.room_is))

pub loop-now-preserved : goal.loop-now-preserved
loop-now-preserved g c =
    let short = c.short_series-now.ensures.step in
    let run = c.long_run-now.ensures in
    step_more (series g (goal.at.loop-now-preserved g c).After-short_series-now) run.step (omega (arith, run.step.taken, short.taken, c.loop-now-test.true, c.requires.input_is))
    (omega (arith, run.below, c.long_run-now.auto.out, c.short_series-now.auto.out, c.loop-now.auto.out))

pub returns-else-leaves_room : goal.returns-else-leaves_room
returns-else-leaves_room g c = rw c.by_fields.ensures (series g (goal.at.returns-else-leaves_room g c).After-short_series-now)
