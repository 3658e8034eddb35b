-- The bits of the parts, one after the other.
use Rattle.std.proofs.Common.{◌≡◌, arith, refl}
use Rattle.qoi.proofs.encoding.coder.PixelBlock.{bits_of_3, bits_of_4}
use Rattle.qoi.proofs.encode.repeats.same_in_block.Goals as goal

pub returns-then-this-eq3 : goal.returns-then-this-eq3
returns-then-this-eq3 g c = record {
  bits = bits_of_3 _ _ c.same_in_part-first.result c.same_in_part-second.result c.same_in_part-third.result
      (rw c.if-this-eq3.true refl) (omega (arith, c.requires, c.if-this-eq3.true))
      c.same_in_part-first.ensures.few c.same_in_part-second.ensures.few c.same_in_part-third.ensures.few
      c.same_in_part-first.ensures.bits c.same_in_part-second.ensures.bits c.same_in_part-third.ensures.bits;
}

pub returns : goal.returns
returns g c =
    let is : g.row.N ≡ 4 = omega (arith, c.args.raw.channels, c.if-this-eq3.false) in
    record {
      bits = bits_of_4 _ _ c.same_in_part-first.result c.same_in_part-second.result c.same_in_part-third.result c.same_in_part.result
          (rw is (refl {a = 64})) (omega (arith, c.requires, is))
          c.same_in_part-first.ensures.few c.same_in_part-second.ensures.few c.same_in_part-third.ensures.few c.same_in_part.ensures.few
          c.same_in_part-first.ensures.bits c.same_in_part-second.ensures.bits c.same_in_part-third.ensures.bits c.same_in_part.ensures.bits;
    }
