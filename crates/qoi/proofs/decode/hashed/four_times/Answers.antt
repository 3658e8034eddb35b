-- The lanes' bytes make up the number.
use Rattle.std.proofs.Common.{◌/◌, ◌%◌, arith, refl}
use Rattle.qoi.proofs.format.FourTimes.{four_times}
use Rattle.qoi.proofs.decode.hashed.four_times.Goals as goal

pub returns : goal.returns
returns c =
    let s = c.args.lanes in
    four_times (s % 256) (s / 65536 % 256) (s / 4294967296 % 256) (s / 281474976710656 % 256) _ (omega arith) (omega arith) (omega arith) (omega arith) refl
