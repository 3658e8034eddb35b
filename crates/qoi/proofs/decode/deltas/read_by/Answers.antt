-- Each entry of the table is right.
use Rattle.std.proofs.Common.{arith, refl, ◌-◌, ◌^◌}
use Rattle.qoi.proofs.format.AddedTerms.{byte_value}
use Rattle.qoi.proofs.decode.deltas.read_by.Goals as goal

pub returns : goal.returns
returns c = record {
  luma = λ low high. byte_value (λ b. 2 ^ 64 - 1) 512 128 64 c.args.b1 refl low high (omega arith);
  before = λ high. byte_value (λ b. 0) 512 0 128 c.args.b1 refl (omega arith) high (omega arith);
  run = λ low high. byte_value (λ b. 0) 512 192 62 c.args.b1 refl low high (omega arith);
  rgb = λ is. byte_value (λ b. 2 ^ 48 - 1) 512 254 1 c.args.b1 refl (omega (arith, is)) (omega (arith, is)) (omega arith);
  rgba = λ is. byte_value (λ b. 2 ^ 64 - 1) 512 255 1 c.args.b1 refl (omega (arith, is)) (omega (arith, is)) (omega arith);
}
