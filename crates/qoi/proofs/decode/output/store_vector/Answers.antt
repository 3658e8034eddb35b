-- The copies that are asked for are among those of the vector.
use Rattle.qoi.proofs.decoding.Vectors.{vector_written}
use Rattle.qoi.proofs.decode.output.store_vector.Goals as goal

pub returns : goal.returns
returns g c count le = vector_written g.row.F g.row.N _ c.args.out.now _ c.args.at count c.requires.three_or_four c.requires.room c.repeated.ensures le
