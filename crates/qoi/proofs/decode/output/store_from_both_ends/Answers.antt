-- What is written from the front meets what is written up to the end.
use Rattle.std.proofs.Common.{◌*◌, ◌/◌, arith}
use Rattle.qoi.proofs.decoding.Vectors.{ends_written, most_by_eight}
use Rattle.qoi.proofs.decode.output.store_from_both_ends.Goals as goal

pub returns-then-count-one : goal.returns-then-count-one
returns-then-count-one g c =
    let k = 16 / g.row.N in
    ends_written _ c.args.at k c.args.count c.requires.space.three_or_four (omega (arith, c.requires.space.room)) (c.requires.some) (omega (arith, c.if-count-one.true)) (c.store_vector.ensures k (omega arith)) (c.store_vector-then-count-one.ensures k (omega arith))

pub returns-then-count-one-2 : goal.returns-then-count-one-2
returns-then-count-one-2 g c =
    let k = 2 * (16 / g.row.N) in
    ends_written _ c.args.at k c.args.count c.requires.space.three_or_four (omega (arith, c.requires.space.room)) (omega (arith, c.if-count-one.false)) (omega (arith, c.if-count-one-2.true)) (c.store_two_vectors.ensures k (omega arith)) (c.store_two_vectors-then-count-one-2.ensures k (omega arith))

pub returns-then-count-one-3 : goal.returns-then-count-one-3
returns-then-count-one-3 g c =
    let k = 4 * (16 / g.row.N) in
    ends_written _ c.args.at k c.args.count c.requires.space.three_or_four (omega (arith, c.requires.space.room)) (omega (arith, c.if-count-one-2.false)) (omega (arith, c.if-count-one-3.true)) (c.store_four_vectors.ensures k (omega arith)) (c.store_four_vectors-then-count-one-3.ensures k (omega arith))

pub returns-else-count-one-3 : goal.returns-else-count-one-3
returns-else-count-one-3 g c =
    let k = 8 * (16 / g.row.N) in
    ends_written _ c.args.at k c.args.count c.requires.space.three_or_four (omega (arith, c.requires.space.room)) (omega (arith, c.if-count-one-3.false)) (most_by_eight g.row.N c.args.count c.requires.space.three_or_four c.requires.short) (c.store_eight_vectors.ensures k (omega arith)) (c.store_eight_vectors-else-count-one-3.ensures k (omega arith))
