-- Chunks were taken after those before, and their pixels written and seen.
use Rattle.std.proofs.Common.{◌-◌, length, nat_eq, not}
use Rattle.qoi.specs.inner.Chunks.{TakesMore}
use Rattle.qoi.specs.inner.Filling.{filling}
use Rattle.qoi.proofs.decode.buffered.decode_chunks.Given as goal

abbrev pub invariant-loop-out : goal.invariant-loop-out
invariant-loop-out g l = TakesMore g.row.F g.row.N (not (nat_eq g.row.WHILE_RUNS_FIT 0)) (g.R.Read.remaining l.initial.reader) (g.R.Read.remaining l.reader)
    (filling l.initial.table l.fn.from l.initial.out) (filling l.table l.now l.out)

abbrev pub decreases-loop-out : goal.decreases-loop-out
decreases-loop-out g l = length l.out - l.now.at
