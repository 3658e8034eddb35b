-- Sixteen bytes are put, shuffled by an order of the table; those count that are moved together.
use Rattle.std.proofs.Common.{◌++◌, take, ap, ◌∙◌, arith, w8}
use Rattle.std.proofs.lemmas.Simd.{length-swz_l, swz_l}
use lib.Lanes.{digits_l, number_l}
use Rattle.qoi.proofs.encoding.stores.FourChunks.{total_few}
use Rattle.qoi.proofs.encoding.stores.FourOrders.{entry_total, order_moves}
use Rattle.qoi.proofs.encoding.stores.Shuffles.{may_shuffle}
use Rattle.qoi.proofs.format.LaneBytes.{bytes_put}
use Rattle.qoi.proofs.encode.block.storing.shuffled.store_four_shuffled.Goals as goal

pub swizzle : goal.swizzle
swizzle c = may_shuffle 0 c.order.result (omega (arith, c.order.ensures.long)) c.order.ensures.below

pub returns-clause-near : goal.returns-clause-near
returns-clause-near c = (omega arith, omega (arith, c.from.ensures, entry_total c.args.codes (omega arith), total_few c.args.codes))

pub returns-clause-written : goal.returns-clause-written
returns-clause-written c =
    let few = total_few c.args.codes in
    let count = c.from.ensures ∙ entry_total c.args.codes (omega arith) in
    let order = c.order.ensures in
    let bytes = digits_l 256 16 (number_l 4294967296 c.args.numbers) in
    bytes_put 16 c.args.at c.from.result c.args.out.now _ c.requires (length-swz_l w8 16 bytes 0 c.order.result ∙ order.long) (omega arith)
    ∙ ap (λ z. take c.args.at c.args.out.now ++ z) (ap (λ n. take n (swz_l w8 16 bytes 0 c.order.result)) count
    ∙ order_moves c.args.numbers c.order.result c.args.codes c.fits-numbers.0 c.fits-numbers.1 order.long order.order order.below)
