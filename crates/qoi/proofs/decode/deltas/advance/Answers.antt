-- Each entry of the tables is right.
use Rattle.std.proofs.Common.{◌≡◌, ◌*◌, arith, refl}
use Rattle.qoi.proofs.format.AddedTerms.{byte_value, count_by, advance_is}
use Rattle.qoi.proofs.decode.deltas.advance.Goals as goal

pub returns-then-this-eq3 : goal.returns-then-this-eq3
returns-then-this-eq3 g c =
    let is : g.row.N ≡ 3 = c.if-this-eq3.true in
    rw is (advance_is 3 c.args.b1 _ (byte_value (λ b. 3 * count_by b) 768 0 256 c.args.b1 refl (omega arith) c.requires.byte (omega arith)))

pub returns-else-this-eq3 : goal.returns-else-this-eq3
returns-else-this-eq3 g c =
    let is : g.row.N ≡ 4 = omega (arith, c.requires.channels, c.if-this-eq3.false) in
    rw is (advance_is 4 c.args.b1 _ (byte_value (λ b. 4 * count_by b) 1024 0 256 c.args.b1 refl (omega arith) c.requires.byte (omega arith)))
