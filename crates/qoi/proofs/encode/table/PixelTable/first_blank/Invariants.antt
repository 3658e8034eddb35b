-- The first is none of those before this position.
use Rattle.std.proofs.Common.{◌≡◌, ◌-◌}
use Rattle.qoi.specs.Qoi.{Past}
use Rattle.qoi.specs.inner.Table.{Holds, first_blank}
use Rattle.qoi.proofs.format.TableHolds.{blank_from}
use Rattle.qoi.proofs.encode.table.PixelTable.first_blank.Given as goal

abbrev pub invariant-loop-index : goal.invariant-loop-index
invariant-loop-index l = (past : Past) → Holds l.self past → first_blank past ≡ blank_from past l.index

abbrev pub decreases-loop-index : goal.decreases-loop-index
decreases-loop-index l = 64 - l.index
