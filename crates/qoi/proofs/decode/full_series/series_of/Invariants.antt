-- Chunks were taken, and their pixels written and seen; another one comes, for which there is room.
use Rattle.std.proofs.Common.{◌≡◌, ◌+◌, ◌-◌}
use Rattle.qoi.specs.inner.Filling.{FastChunks, HasAhead, KeepsAlpha}
use Rattle.qoi.proofs.decode.full_series.series_of.Given as goal

abbrev pub invariant-loop-one : goal.invariant-loop-one
invariant-loop-one g l = FastChunks l.bytes l.fn.from l.initial.table l.initial.out l.series.to l.table l.out
    × KeepsAlpha g.row.TAG l.series.before l.series.to.last × HasAhead 14 20 l.bytes l.out l.series.to × (l.series.to.next ≡ g.row.TAG)

abbrev pub decreases-loop-one : goal.decreases-loop-one
decreases-loop-one g l = l.input_end + 12 - l.series.to.taken
