-- The second half of the vectors stands after the first.
use Rattle.std.proofs.Common.{◌*◌, ◌/◌, arith}
use Rattle.qoi.proofs.decoding.Vectors.{two_written, most_by_eight}
use Rattle.qoi.proofs.decode.output.store_run.Goals as goal

pub returns-then-count-eight : goal.returns-then-count-eight
returns-then-count-eight g c =
    let k = 8 * (16 / g.row.N) in
    two_written _ c.args.at k c.args.count c.requires.space.three_or_four (omega (arith, c.requires.space.room)) (most_by_eight g.row.N c.args.count c.requires.space.three_or_four c.requires.short)
    (c.store_eight_vectors.ensures k (omega arith)) (c.store_eight_vectors-then-count-eight.ensures k (omega arith))
