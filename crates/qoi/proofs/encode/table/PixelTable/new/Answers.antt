-- Transparent black stands at each index position.
use Rattle.std.proofs.Common.{[], subst, sym, replicate}
use Rattle.qoi.specs.inner.Table.{Holds}
use Rattle.qoi.proofs.format.TableHolds.{holds_none}
use Rattle.qoi.proofs.encode.table.PixelTable.new.Goals as goal

pub returns : goal.returns
returns c = subst (λ p. Holds (replicate 64 p) []) (sym c.blank.ensures) holds_none
