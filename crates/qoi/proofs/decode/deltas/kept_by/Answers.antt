-- Each entry of the table is right.
use Rattle.std.proofs.Common.{arith, refl}
use Rattle.qoi.specs.declared.decode.deltas.TheConstants.{KEEP}
use Rattle.qoi.proofs.format.AddedTerms.{byte_value}
use Rattle.qoi.proofs.decode.deltas.kept_by.Goals as goal

pub returns : goal.returns
returns c = record {
  place = λ high. byte_value (λ b. 0) 256 0 64 c.args.b1 refl (omega arith) high (omega arith);
  other = λ low high. byte_value (λ b. KEEP) 256 64 190 c.args.b1 refl low high (omega arith);
  rgb = λ is. byte_value (λ b. 0xff000000000000) 256 254 1 c.args.b1 refl (omega (arith, is)) (omega (arith, is)) (omega arith);
  rgba = λ is. byte_value (λ b. 0) 256 255 1 c.args.b1 refl (omega (arith, is)) (omega (arith, is)) (omega arith);
}
