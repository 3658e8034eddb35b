-- All bits are set if none is left out by `&`.
use Rattle.std.proofs.Common.{◌≡◌, ◌∙◌, ◌+◌, ◌-◌, ◌*◌, ◌^◌, ◌<◌, ◌%◌, ℕ, eqb-true, ap, sym, arith, refl}
use Rattle.std.proofs.lemmas.Nat.{and_le_l, and_le_r}
use Rattle.std.specs.Int.Bits.{bit_and}
use Rattle.qoi.proofs.encoding.coder.PixelBlock.{bits_of_3, bits_of_4}
use Rattle.qoi.proofs.encode.repeats.all_same_in_block.Goals as goal

-- two numbers of sixteen bits have all of them if both have
both : (a b : ℕ) → a < 2 ^ 16 → b < 2 ^ 16 → bit_and a b ≡ 65535 → (a ≡ 65535) × (b ≡ 65535)
both a b la lb e = (omega (arith, and_le_l a b, la, e), omega (arith, and_le_r a b, lb, e))

-- so have three
three : (a b d : ℕ) → a < 2 ^ 16 → b < 2 ^ 16 → d < 2 ^ 16 → bit_and (bit_and a b) d ≡ 65535 → (a ≡ 65535) × (b ≡ 65535) × (d ≡ 65535)
three a b d la lb ld e =
    let last = both (bit_and a b) d (omega (arith, and_le_l a b, la)) ld e in
    let first = both a b la lb last.0 in
    (first.0, first.1, last.1)

pub returns-then-this-eq3 : goal.returns-then-this-eq3
returns-then-this-eq3 g c is =
    let first = c.same_in_part-first in
    let second = c.same_in_part-second in
    let third = c.same_in_part-third in
    let all = three first.result second.result third.result first.ensures.few second.ensures.few third.ensures.few (eqb-true (bit_and (bit_and first.result second.result) third.result) 65535 is) in
    let sum : first.result + second.result * 2 ^ 16 % 2 ^ 64 + third.result * 2 ^ 32 % 2 ^ 64 ≡ 2 ^ 48 - 1 = omega (arith, all.0, all.1, all.2) in
    sym (bits_of_3 _ _ first.result second.result third.result (rw c.if-this-eq3.true refl) (omega (arith, c.requires, c.if-this-eq3.true))
    first.ensures.few second.ensures.few third.ensures.few first.ensures.bits second.ensures.bits third.ensures.bits)
    ∙ sum ∙ sym (ap (λ n. 2 ^ (n * 16) - 1) c.if-this-eq3.true)

pub returns : goal.returns
returns g c is =
    let four : g.row.N ≡ 4 = omega (arith, c.args.raw.channels, c.if-this-eq3.false) in
    let a = c.same_in_part-first in
    let b = c.same_in_part-second in
    let d = c.same_in_part-third in
    let f = c.same_in_part in
    let some = bit_and (bit_and a.result b.result) d.result in
    let last = both some f.result (omega (arith, and_le_r (bit_and a.result b.result) d.result, d.ensures.few)) f.ensures.few (eqb-true (bit_and some f.result) 65535 is) in
    let all = three a.result b.result d.result a.ensures.few b.ensures.few d.ensures.few last.0 in
    let sum : a.result + b.result * 2 ^ 16 % 2 ^ 64 + d.result * 2 ^ 32 % 2 ^ 64 + f.result * 2 ^ 48 % 2 ^ 64 ≡ 2 ^ 64 - 1 = omega (arith, all.0, all.1, all.2, last.1) in
    sym (bits_of_4 _ _ a.result b.result d.result f.result (rw four (refl {a = 64})) (omega (arith, c.requires, four))
    a.ensures.few b.ensures.few d.ensures.few f.ensures.few a.ensures.bits b.ensures.bits d.ensures.bits f.ensures.bits)
    ∙ sum ∙ sym (ap (λ n. 2 ^ (n * 16) - 1) four)
