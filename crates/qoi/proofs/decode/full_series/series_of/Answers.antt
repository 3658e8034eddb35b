-- One chunk, or two, and as many more as come.
use Rattle.std.proofs.Common.{arith}
use Rattle.qoi.specs.inner.Filling.{FastChunks}
use Rattle.qoi.proofs.decoding.FastSteps.{step_then, step_more}
use Rattle.qoi.proofs.decode.full_series.series_of.Given.{Over}
use Rattle.qoi.proofs.decode.full_series.series_of.Goals.{After-take_chunk-series}
use Rattle.qoi.proofs.decode.full_series.series_of.Goals as goal

-- after two chunks more
two : (g : Over) (c : After-take_chunk-series g) → FastChunks c.args.bytes.now c.args.from c.args.table.now c.args.out.now
    c.take_chunk-series.result.to c.take_chunk-series.new.table c.take_chunk-series.new.out
two g c =
    let i = c.loop-one.invariant in
    let step = step_then c.take_chunk-one.ensures.step c.take_chunk-series.ensures.step in
    step_more i.0 step (omega (arith, step.taken, i.2.input_is)) (omega (arith, step.written, i.2.room_is, c.loop-one.auto.out))

pub loop-one-preserved : goal.loop-one-preserved
loop-one-preserved g c =
    let i = c.loop-one.invariant in
    let step = c.take_chunk-series.ensures.step in (
      two g (goal.at.loop-one-preserved g c).After-take_chunk-series,
      c.take_chunk-series.ensures.alpha,
      record {
        three_or_four = i.2.three_or_four;
        whole = step.whole;
        byte = step.byte;
        input_is = omega (arith, c.if-input_end-to.false, c.requires.room.input_is);
        room_is = omega (arith, c.if-output_end-to.false, c.requires.room.room_is);
      },
      omega (arith, c.if-to.false),
    )

pub returns-then-one-clause-chunks : goal.returns-then-one-clause-chunks
returns-then-one-clause-chunks g c =
    let i = c.loop-one.invariant in
    let step = c.take_chunk-one.ensures.step in
    rw c.by_fields.ensures (step_more i.0 step (omega (arith, step.taken, i.2.input_is)) (omega (arith, step.written, i.2.room_is, c.loop-one.auto.out)))

pub returns-then-to-clause-chunks : goal.returns-then-to-clause-chunks
returns-then-to-clause-chunks g c = rw c.by_fields-then-to.ensures (two g (goal.at.returns-then-to-clause-chunks g c).After-take_chunk-series)
