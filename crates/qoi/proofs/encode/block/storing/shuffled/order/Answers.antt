-- An entry of the table.
use Rattle.std.proofs.Common.{take, arith, ap, ◌∙◌}
use lib.Lanes.{all_below}
use Rattle.qoi.specs.inner.block.Storing.{total}
use Rattle.qoi.proofs.encoding.stores.FourOrders.{entry_order, entry_below}
use Rattle.qoi.proofs.encode.block.storing.shuffled.order.Goals as goal

pub returns-clause-order : goal.returns-clause-order
returns-clause-order c = ap (take (total c.args.codes)) c.bytes_of.ensures ∙ entry_order c.args.codes (omega arith)

pub returns-clause-below : goal.returns-clause-below
returns-clause-below c = ap (all_below 16) c.bytes_of.ensures ∙ entry_below c.args.codes (omega arith)
