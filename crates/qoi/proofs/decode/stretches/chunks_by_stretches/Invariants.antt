-- Chunks were taken, and their pixels written and seen; a stretch isn't long.
use Rattle.std.proofs.Common.{◌+◌, ◌-◌, ◌≤◌}
use Rattle.qoi.specs.inner.Filling.{FastChunks}
use Rattle.qoi.proofs.decode.stretches.chunks_by_stretches.Given as goal

abbrev pub invariant-loop-now : goal.invariant-loop-now
invariant-loop-now g l = FastChunks l.bytes l.fn.from l.initial.table l.initial.out l.now l.table l.out × (l.size ≤ 2048)

abbrev pub decreases-loop-now : goal.decreases-loop-now
decreases-loop-now g l = l.input_end + 1 - l.now.taken
