-- Each vector stands after the one before.
use Rattle.std.proofs.Common.{◌/◌, arith}
use Rattle.qoi.proofs.decoding.Vectors.{two_written}
use Rattle.qoi.proofs.decode.output.store_two_vectors.Goals as goal

pub returns : goal.returns
returns g c count le =
    let k = 16 / g.row.N in
    two_written _ c.args.at k count c.requires.three_or_four (omega (arith, c.requires.room)) le (c.store_vector.ensures k (omega arith)) (c.store_vector-2.ensures k (omega arith))
