-- Sixteen numbers of 32 bits as pixels.
use Rattle.std.proofs.Common.{◌≡◌, ℕ, ◌^◌, ◌<◌, List, [], ◌∷◌, ◌++◌, map, refl, arith}
use Rattle.qoi.specs.Qoi.{IsPixel}
use Rattle.qoi.specs.inner.Packed.{word, pixel_of_word}
use Rattle.qoi.proofs.format.ChunkSteps.{all_append}
use Rattle.qoi.specs.inner.block.Planes.{Words, AreFour, AreFourWords, AreSixteen, AreBlockWords, ArePacked, block_pixels}

-- a number of 32 bits is a pixel
pub number_pixel : (w : ℕ) → w < 2 ^ 32 → IsPixel (pixel_of_word w)
number_pixel w l = record { r = omega arith; g = omega arith; b = omega arith; a = omega arith }

-- which is this number, packed
pub repacked : (w : ℕ) → w < 2 ^ 32 → w ≡ word (pixel_of_word w)
repacked w l = omega arith

-- four numbers of 32 bits are four pixels, packed
pub four_numbers : (xs : List ℕ) → AreFour xs → AreFourWords (map pixel_of_word xs) xs
four_numbers (a ∷ b ∷ c ∷ d ∷ []) f = record {
  four = refl;
  are = (number_pixel a (f.1 0), (number_pixel b (f.1 1), (number_pixel c (f.1 2), (number_pixel d (f.1 3), tt))));
  words_are = λ i. repacked a (f.1 0) i ∷ repacked b (f.1 1) i ∷ repacked c (f.1 2) i ∷ repacked d (f.1 3) i ∷ [];
}
four_numbers xs f = absurd (let l = f.0 in omega arith)

-- four times four numbers of 32 bits are sixteen pixels, packed
packed_block : (a b c d : List ℕ) → AreFour a → AreFour b → AreFour c → AreFour d
    → (let w : Words = record { one = a; two = b; three = c; four = d } in AreSixteen (block_pixels w) × AreBlockWords (block_pixels w) w)
packed_block (a0 ∷ a1 ∷ a2 ∷ a3 ∷ []) (b0 ∷ b1 ∷ b2 ∷ b3 ∷ []) (c0 ∷ c1 ∷ c2 ∷ c3 ∷ []) (d0 ∷ d1 ∷ d2 ∷ d3 ∷ []) fa fb fc fd =
    let one = four_numbers (a0 ∷ a1 ∷ a2 ∷ a3 ∷ []) fa in
    let two = four_numbers (b0 ∷ b1 ∷ b2 ∷ b3 ∷ []) fb in
    let three = four_numbers (c0 ∷ c1 ∷ c2 ∷ c3 ∷ []) fc in
    let four = four_numbers (d0 ∷ d1 ∷ d2 ∷ d3 ∷ []) fd in
    let a = map pixel_of_word (a0 ∷ a1 ∷ a2 ∷ a3 ∷ []) in
    let b = map pixel_of_word (b0 ∷ b1 ∷ b2 ∷ b3 ∷ []) in
    let c = map pixel_of_word (c0 ∷ c1 ∷ c2 ∷ c3 ∷ []) in
    let d = map pixel_of_word (d0 ∷ d1 ∷ d2 ∷ d3 ∷ []) in (
      record { long = refl; are = all_append IsPixel a (b ++ (c ++ d)) one.are (all_append IsPixel b (c ++ d) two.are (all_append IsPixel c d three.are four.are)) },
      record { one_are = one; two_are = two; three_are = three; four_are = four },
    )
packed_block a b c d fa fb fc fd = absurd (omega (arith, fa.0, fb.0, fc.0, fd.0))

-- sixteen numbers of 32 bits are sixteen pixels
pub block_sixteen : (w : Words) → ArePacked w → AreSixteen (block_pixels w)
block_sixteen w p = (packed_block w.one w.two w.three w.four p.0 p.1.0 p.1.1.0 p.1.1.1).0

-- and these pixels, packed, are the numbers
pub block_words : (w : Words) → ArePacked w → AreBlockWords (block_pixels w) w
block_words w p = (packed_block w.one w.two w.three w.four p.0 p.1.0 p.1.1.0 p.1.1.1).1
