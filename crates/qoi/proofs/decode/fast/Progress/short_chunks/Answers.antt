-- One chunk after the other.
use Rattle.std.proofs.Common.{arith}
use Rattle.qoi.proofs.decoding.FastSteps.{step_then, step_at_first}
use Rattle.qoi.proofs.decode.fast.Progress.short_chunks.Goals as goal

pub returns-then-this-eq1-clause-step : goal.returns-then-this-eq1-clause-step
returns-then-this-eq1-clause-step g c =
    rw c.taken_further.ensures (step_at_first c.args.self c.short_chunk-one.ensures (omega arith) (omega (arith, c.requires.most)) (omega (arith, c.requires.most)))

pub returns-then-not-is_short-3-clause-step : goal.returns-then-not-is_short-3-clause-step
returns-then-not-is_short-3-clause-step g c =
    let two = step_then c.short_chunk-one.ensures c.short_chunk-two.ensures in
    rw c.taken_further-then-not-is_short-3.ensures (step_at_first c.args.self two (omega arith) (omega (arith, c.requires.most)) (omega (arith, c.requires.most)))

pub returns-then-not-is_short-4-clause-step : goal.returns-then-not-is_short-4-clause-step
returns-then-not-is_short-4-clause-step g c =
    let two = step_then c.short_chunk-one.ensures c.short_chunk-two.ensures in
    rw c.taken_further-then-not-is_short-4.ensures (step_at_first c.args.self (step_then two c.short_chunk-three.ensures) (omega arith) (omega (arith, c.requires.most)) (omega (arith, c.requires.most)))

pub returns-clause-step : goal.returns-clause-step
returns-clause-step g c =
    let two = step_then c.short_chunk-one.ensures c.short_chunk-two.ensures in
    rw c.taken_further-2.ensures (step_at_first c.args.self (step_then (step_then two c.short_chunk-three.ensures) c.short_chunk.ensures) (omega arith) (omega (arith, c.requires.most)) (omega (arith, c.requires.most)))
