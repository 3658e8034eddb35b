-- One chunk after the other.
use Rattle.std.proofs.Common.{◌+◌, slice_index, arith}
use Rattle.qoi.proofs.encoding.stores.StoredParts.{chained}
use Rattle.qoi.proofs.encode.block.storing.each.store_four.Goals as goal

pub returns-clause-written : goal.returns-clause-written
returns-clause-written c = λ ss n few starts.
    chained c.args.at n ss c.args.starts c.args.out.now c.store_number.new.out c.store_number-2.new.out c.store_number-3.new.out c.store_number-4.new.out _ _ _ _ starts
    (c.store_number.ensures.written (slice_index ss (n + 0)) (omega (arith, few (n + 0)))) (c.store_number-2.ensures.written (slice_index ss (n + 1)) (omega (arith, few (n + 1))))
    (c.store_number-3.ensures.written (slice_index ss (n + 2)) (omega (arith, few (n + 2)))) (c.store_number-4.ensures.written (slice_index ss (n + 3)) (omega (arith, few (n + 3))))
