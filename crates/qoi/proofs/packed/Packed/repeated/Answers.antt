-- Two numbers of eight bytes hold the pixel four times; a shuffle picks from them.
use Rattle.std.proofs.Common.{◌≡◌, ℕ, zero, suc, ◌+◌, ◌*◌, ◌/◌, ◌%◌, ◌^◌, ◌<◌, List, [], ◌∷◌, length, take, drop, replicate, arith, refl, sym, ap, ◌∙◌}
use lib.Lanes.{Each1, number_l, digits_l}
use Rattle.qoi.specs.Qoi.{RgbaPixel, IsPixel}
use Rattle.qoi.specs.Raw.{output}
use Rattle.qoi.specs.inner.Packed.{word}
use Rattle.qoi.proofs.packed.Packed.repeated.Goals as goal

-- the digits of bytes' number are the bytes
digits_of : (bytes : List ℕ) → Each1 (λ x. x < 256) bytes → digits_l 256 (length bytes) (number_l 256 bytes) ≡ bytes
digits_of [] fit = refl
digits_of (x ∷ bytes) fit =
    let low : (x + 256 * number_l 256 bytes) % 256 ≡ x = omega (arith, fit.0) in
    let high : (x + 256 * number_l 256 bytes) / 256 ≡ number_l 256 bytes = omega (arith, fit.0) in
    rw (low, high) (ap (λ rest. x ∷ rest) (digits_of bytes fit.1))

-- the bytes of a pixel, four times
abbrev four_times : RgbaPixel → List ℕ
four_times p = p.r ∷ p.g ∷ p.b ∷ p.a ∷ p.r ∷ p.g ∷ p.b ∷ p.a ∷ p.r ∷ p.g ∷ p.b ∷ p.a ∷ p.r ∷ p.g ∷ p.b ∷ p.a ∷ []

-- two numbers of eight bytes hold them
four_of_word : (p : RgbaPixel) (w : ℕ) → w ≡ word p → IsPixel p → digits_l 256 16 (number_l (2 ^ 64) (replicate 2 (w * 0x100000001))) ≡ four_times p
four_of_word p w e h =
    let number : number_l (2 ^ 64) (replicate 2 (w * 0x100000001)) ≡ number_l 256 (four_times p) = omega (arith, e, h.r, h.g, h.b, h.a) in
    ap (digits_l 256 16) number ∙ digits_of (four_times p) (
      h.r,
      (h.g, (h.b, (h.a, (h.r, (h.g, (h.b, (h.a, (h.r, (h.g, (h.b, (h.a, (h.r, (h.g, (h.b, (h.a, tt))))))))))))))),
    )

-- they are each part of four channels
each_part : (c part : ℕ) (p : RgbaPixel) → c ≡ 4 → part < c → four_times p ≡ take 16 (drop (16 * part) (output c c (replicate 16 p)))
each_part c part p is l = rw is (sym (same part (omega (arith, l, is))))
  where
    same : (part : ℕ) → part < 4 → take 16 (drop (16 * part) (output 4 4 (replicate 16 p))) ≡ four_times p
    same zero l = refl
    same (suc zero) l = refl
    same (suc (suc zero)) l = refl
    same (suc (suc (suc zero))) l = refl
    same (suc (suc (suc (suc n)))) l = absurd (omega arith)

pub returns-then-this-eq4-clause-bytes : goal.returns-then-this-eq4-clause-bytes
returns-then-this-eq4-clause-bytes g c =
    four_of_word c.args.self c.from-word.result (c.from-word.ensures ∙ c.number.ensures.number) c.number.ensures.bytes ∙ each_part g.row.N g.row.PART c.args.self c.if-this-eq4.true c.requires.part
