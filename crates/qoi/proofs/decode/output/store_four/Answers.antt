-- The front of the bytes is the pixel.
use Rattle.std.proofs.Common.{take, arith, ◌∙◌, take-take, length-take-le}
use Rattle.qoi.proofs.decoding.Vectors.{read_bytes_written}
use Rattle.qoi.proofs.decode.output.store_four.Goals as goal

pub returns : goal.returns
returns g c =
    let bytes = c.args.bytes.now in
    read_bytes_written g.row.F g.row.N c.args.px c.args.out.now (take 4 bytes) c.args.at c.requires.space.three_or_four c.requires.space.room (length-take-le 4 bytes c.requires.four)
    (take-take g.row.N 4 bytes (omega (arith, c.requires.space.three_or_four)) ∙ c.requires.pixel)
