-- What was lent is the front of the output.
use Rattle.std.proofs.Common.{drop, arith, length-take-le, take_at}
use Rattle.qoi.proofs.decode.pixel_reader.room.keep_rest_of_image.Goals as goal

pub returns-clause-read : goal.returns-clause-read
returns-clause-read g c =
    let size = length-take-le c.args.size c.args.out.now c.requires.within in
    rw (take_at c.rest_of_image.new.out (drop c.args.size c.args.out.now) c.args.size (omega (arith, size, c.rest_of_image.auto.out))) c.rest_of_image.ensures.read
