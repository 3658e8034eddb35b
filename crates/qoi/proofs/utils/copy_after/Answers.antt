-- The bytes stand after those written before, and what is after them stays.
use Rattle.std.proofs.Common.{◌≡◌, ◌+◌, ◌-◌, ◌++◌, length, take, rules, refl, ap, ◌∙◌, arith}
use Rattle.std.proofs.lemmas.Slice.{take-put_mid, drop-put_mid}
use Rattle.qoi.proofs.utils.copy_after.Goals as goal

pub returns : goal.returns
returns c =
    let buf = c.args.buf.now in
    let w = c.args.written in
    let bytes = c.args.v.now in
    let copied : c.copy_from_slice.new.self ≡ bytes = search rules in
    let size : length c.copy_from_slice.new.self ≡ length bytes = ap length copied in
    record {
      reached = refl;
      front = take-put_mid w (w + length bytes - w) buf c.copy_from_slice.new.self (w + length bytes) (omega arith) (omega (arith, c.requires))
          ∙ ap (λ z. take w buf ++ z) copied;
      later = drop-put_mid w (w + length bytes - w) buf c.copy_from_slice.new.self (w + length bytes) (omega arith) (omega (arith, c.requires)) (omega arith);
    }
