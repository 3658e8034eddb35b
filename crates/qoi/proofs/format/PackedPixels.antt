-- Pixels as single numbers of 32 bits.
use Rattle.std.proofs.Common.{◌≡◌, ℕ, ◌+◌, ◌*◌, ◌/◌, ◌%◌, ◌^◌, ◌<◌, arith, refl, ap, ◌∙◌}
use Rattle.std.specs.Int.Bits.{bit_and, bit_or, and_zero_r}
use Rattle.std.proofs.lemmas.Grind.{or_after_shift}
use Rattle.std.proofs.lemmas.Nat.{and_block, and_mask}
use Rattle.qoi.specs.Qoi.{RgbaPixel, IsPixel, hash}
use Rattle.qoi.proofs.format.SamePixels.{same_pixel}
use Rattle.qoi.specs.inner.Packed.{word, pixel_of_word}

-- a pixel spread over 64 bits: red, blue, green and alpha from bits 0, 16, 40 and 56 on
abbrev pub spread : RgbaPixel → ℕ
spread p = p.r + p.b * 2 ^ 16 + p.g * 2 ^ 40 + p.a * 2 ^ 56

-- the six highest bits of its product, in 64 bits, with four times the weights of the hash:
-- 3 * 2^56 + 7 * 2^40 + 5 * 2^16 + 11
abbrev pub product_hash : RgbaPixel → ℕ
product_hash p = spread p * 0x0c00_1c00_0014_002c % 2 ^ 64 / 2 ^ 58

-- a pixel packed and unpacked
pub unpacked : (p : RgbaPixel) → IsPixel p → pixel_of_word (word p) ≡ p
unpacked p i = same_pixel _ p (omega (arith, i.r, i.g, i.b, i.a)) (omega (arith, i.r, i.g, i.b, i.a)) (omega (arith, i.r, i.g, i.b, i.a))
    (omega (arith, i.r, i.g, i.b, i.a))

-- green and alpha of a number of four bytes
second_bytes : (a b g r : ℕ) → b < 2 ^ 8 → g < 2 ^ 8 → r < 2 ^ 8 → bit_and (((a * 2 ^ 8 + b) * 2 ^ 8 + g) * 2 ^ 8 + r) 0xff00ff00 ≡ ((a % 2 ^ 8 * 2 ^ 8) * 2 ^ 8 + g) * 2 ^ 8
second_bytes a b g r lb lg lr =
    and_block 8 ((a * 2 ^ 8 + b) * 2 ^ 8 + g) 0xff00ff r 0 lr (omega arith)
    ∙ ap (λ z. z * 2 ^ 8 + bit_and r 0) (and_block 8 (a * 2 ^ 8 + b) 0xff00 g 0xff lg (omega arith))
    ∙ ap (λ z. (z * 2 ^ 8 + bit_and g 0xff) * 2 ^ 8 + bit_and r 0) (and_block 8 a 0xff b 0 lb (omega arith))
    ∙ omega (arith, and_mask a 8, and_mask g 8, and_zero_r b, and_zero_r r)

-- red and blue of it
first_bytes : (a b g r : ℕ) → b < 2 ^ 8 → g < 2 ^ 8 → r < 2 ^ 8 → bit_and (((a * 2 ^ 8 + b) * 2 ^ 8 + g) * 2 ^ 8 + r) 0xff00ff ≡ b * 2 ^ 16 + r
first_bytes a b g r lb lg lr =
    and_block 8 ((a * 2 ^ 8 + b) * 2 ^ 8 + g) 0xff00 r 0xff lr (omega arith)
    ∙ ap (λ z. z * 2 ^ 8 + bit_and r 0xff) (and_block 8 (a * 2 ^ 8 + b) 0xff g 0 lg (omega arith))
    ∙ ap (λ z. (z * 2 ^ 8 + bit_and g 0) * 2 ^ 8 + bit_and r 0xff) (and_block 8 a 0 b 0xff lb (omega arith))
    ∙ omega (arith, and_mask b 8, and_mask r 8, and_zero_r a, and_zero_r g)

-- a word whose bytes are taken apart is the spread number of its pixel
pub word_spread : (w : ℕ) → w < 2 ^ 32 → bit_or (bit_and w 0xff00ff00 * 2 ^ 32 % 2 ^ 64) (bit_and w 0xff00ff) ≡ spread (pixel_of_word w)
word_spread w l =
    ap (λ z. bit_or (bit_and z 0xff00ff00 * 2 ^ 32 % 2 ^ 64) (bit_and z 0xff00ff)) split
    ∙ ap (λ z. bit_or (z * 2 ^ 32 % 2 ^ 64) (bit_and bytes 0xff00ff)) (second_bytes a b g r (omega arith) (omega arith) (omega arith))
    ∙ ap (λ z. bit_or (((a % 2 ^ 8 * 2 ^ 8) * 2 ^ 8 + g) * 2 ^ 8 * 2 ^ 32 % 2 ^ 64) z) (first_bytes a b g r (omega arith) (omega arith) (omega arith))
    ∙ or_after_shift (((a % 2 ^ 8 * 2 ^ 8) * 2 ^ 8 + g) * 2 ^ 8) (2 ^ 32) (2 ^ 64) (b * 2 ^ 16 + r) refl (omega arith) (omega arith)
    ∙ omega arith
  where
    a : ℕ
    a = w / 2 ^ 24

    b : ℕ
    b = w / 2 ^ 16 % 2 ^ 8

    g : ℕ
    g = w / 2 ^ 8 % 2 ^ 8

    r : ℕ
    r = w % 2 ^ 8

    bytes : ℕ
    bytes = ((a * 2 ^ 8 + b) * 2 ^ 8 + g) * 2 ^ 8 + r

    split : w ≡ bytes
    split = omega arith

-- the product gives the hash
pub product_is_hash : (p : RgbaPixel) → IsPixel p → product_hash p ≡ hash p
unfolding hash
product_is_hash p is = omega arith
