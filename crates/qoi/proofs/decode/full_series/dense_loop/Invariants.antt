-- Chunks were taken, and their pixels written and seen.
use Rattle.std.proofs.Common.{◌+◌, ◌-◌}
use Rattle.qoi.specs.inner.Filling.{FastChunks}
use Rattle.qoi.proofs.decode.full_series.dense_loop.Given as goal

abbrev pub invariant-loop-now : goal.invariant-loop-now
invariant-loop-now g l = FastChunks l.bytes l.fn.from l.initial.table l.initial.out l.now l.table l.out

abbrev pub decreases-loop-now : goal.decreases-loop-now
decreases-loop-now g l = l.input_end + 1 - l.now.taken
