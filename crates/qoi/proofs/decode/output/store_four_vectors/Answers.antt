-- Half of the vectors stand after the others.
use Rattle.std.proofs.Common.{◌*◌, ◌/◌, arith}
use Rattle.qoi.proofs.decoding.Vectors.{two_written}
use Rattle.qoi.proofs.decode.output.store_four_vectors.Goals as goal

pub returns : goal.returns
returns g c count le =
    let k = 2 * (16 / g.row.N) in
    two_written _ c.args.at k count c.requires.three_or_four (omega (arith, c.requires.room)) (omega (arith, le)) (c.store_two_vectors.ensures k (omega arith)) (c.store_two_vectors-2.ensures k (omega arith))
