-- One chunk, or four chunks and four more.
use Rattle.std.proofs.Common.{arith}
use Rattle.qoi.proofs.decoding.FastSteps.{step_then, step_within}
use Rattle.qoi.proofs.decode.fast.Progress.short_series.Goals as goal

pub returns-then-this-eq1-clause-step : goal.returns-then-this-eq1-clause-step
returns-then-this-eq1-clause-step g c = step_within c.short_chunks.ensures.step (omega arith) (omega arith) (omega arith)

pub returns-then-not-is_short-clause-step : goal.returns-then-not-is_short-clause-step
returns-then-not-is_short-clause-step g c = step_within c.short_chunks-four.ensures.step (omega arith) (omega arith) (omega arith)

pub returns-clause-step : goal.returns-clause-step
returns-clause-step g c = step_within (step_then c.short_chunks-four.ensures.step c.short_chunks-2.ensures.step) (omega arith) (omega arith) (omega arith)
