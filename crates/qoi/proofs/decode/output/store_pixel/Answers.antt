-- The front of a vector is the pixel.
use Rattle.std.proofs.Common.{arith}
use Rattle.qoi.proofs.decoding.Vectors.{three_bytes_written, four_bytes_written}
use Rattle.qoi.proofs.decode.output.store_pixel.Goals as goal

pub returns-then-this-eq4 : goal.returns-then-this-eq4
returns-then-this-eq4 g c = four_bytes_written g.row.F g.row.N _ c.args.out.now c.repeated-bytes.result c.args.at c.if-this-eq4.true c.requires.room c.repeated-bytes.ensures

pub returns : goal.returns
returns g c = three_bytes_written g.row.F g.row.N _ c.args.out.now c.repeated-bytes.result c.args.at (omega (arith, c.requires.three_or_four, c.if-this-eq4.false)) c.requires.room c.repeated-bytes.ensures
