-- Lanes of 32 bits by their bytes, and the first four pixels of raw bytes as lanes.
use Rattle.std.proofs.Common.{◌≡◌, ℕ, zero, suc, ◌+◌, ◌*◌, ◌/◌, ◌%◌, ◌^◌, ◌<◌, ◌≤◌, List, [], ◌∷◌, ◌++◌, length, take, drop, map, replicate, refl, sym, ap, ◌∙◌, arith, length-take-le, get_or-take}
use Rattle.std.proofs.lemmas.Simd.{Each1-from_get_or}
use lib.Lanes.{Each1, pick_l, number_l, digits_l}
use Rattle.qoi.specs.Qoi.{AreBytes}
use Rattle.qoi.specs.Raw.{pixels_of, pixels_of_3, pixels_of_4}
use Rattle.qoi.specs.inner.Packed.{word}

-- four times as many
abbrev pub fourfold : ℕ → ℕ
fourfold zero = 0
fourfold (suc n) = suc (suc (suc (suc (fourfold n))))

-- the number of four bytes
abbrev of_four : ℕ → ℕ → ℕ → ℕ → ℕ
of_four a b c d = a + b * 2 ^ 8 + c * 2 ^ 16 + d * 2 ^ 24

-- the numbers that each four bytes make
abbrev words_in : List ℕ → List ℕ
words_in (a ∷ b ∷ c ∷ d ∷ bytes) = of_four a b c d ∷ words_in bytes
words_in _ = []

-- four bytes below others
low_lane : (a b c d r : ℕ) → a < 256 → b < 256 → c < 256 → d < 256 → (a + 256 * (b + 256 * (c + 256 * (d + 256 * r)))) % 4294967296 ≡ of_four a b c d
low_lane a b c d r la lb lc ld = omega arith

above_lane : (a b c d r : ℕ) → a < 256 → b < 256 → c < 256 → d < 256 → (a + 256 * (b + 256 * (c + 256 * (d + 256 * r)))) / 4294967296 ≡ r
above_lane a b c d r la lb lc ld = omega arith

-- bytes, as lanes of 32 bits
lanes_of_bytes : (n : ℕ) (bs : List ℕ) → length bs ≡ fourfold n → Each1 (λ b. b < 256) bs → digits_l 4294967296 n (number_l 256 bs) ≡ words_in bs
lanes_of_bytes zero [] e f = refl
lanes_of_bytes zero (b ∷ bs) e f = absurd (omega arith)
lanes_of_bytes (suc n) (a ∷ b ∷ c ∷ d ∷ bs) e f =
    let r = number_l 256 bs in
    (λ i. low_lane a b c d r f.0 f.1.0 f.1.1.0 f.1.1.1.0 i ∷ digits_l 4294967296 n (above_lane a b c d r f.0 f.1.0 f.1.1.0 f.1.1.1.0 i))
    ∙ ap (λ ws. of_four a b c d ∷ ws) (lanes_of_bytes n bs (omega arith) f.1.1.1.1)
lanes_of_bytes (suc n) _ e f = absurd (omega arith)

-- the front of four-byte pixels, as lanes
words_of_4 : (n : ℕ) (bytes : List ℕ) → fourfold n ≤ length bytes → words_in (take (fourfold n) bytes) ≡ map word (take n (pixels_of_4 bytes))
words_of_4 zero bytes l = refl
words_of_4 (suc n) (a ∷ b ∷ c ∷ d ∷ bytes) l = ap (λ ws. of_four a b c d ∷ ws) (words_of_4 n bytes (omega arith))
words_of_4 (suc n) _ l = absurd (omega arith)

pub four_of_4 : (n : ℕ) (bytes : List ℕ) → n ≡ 4 → AreBytes bytes → 16 ≤ length bytes
    → digits_l 4294967296 4 (number_l 256 (take 16 bytes)) ≡ map word (take 4 (pixels_of n bytes))
four_of_4 n bytes e h l =
    lanes_of_bytes 4 (take 16 bytes) (length-take-le 16 bytes l)
    (Each1-from_get_or (λ b. b < 256) (take 16 bytes) 0 (λ i lt. rw (get_or-take 16 bytes i 0 (omega (arith, length-take-le 16 bytes l))) (h i)))
    ∙ words_of_4 4 bytes l
    ∙ sym (ap (λ n. map word (take 4 (pixels_of n bytes))) e)

-- bytes and alphas between them
abbrev opaque_bytes : List ℕ → List ℕ
opaque_bytes v = pick_l 0 (v ++ replicate 16 255) (0 ∷ 1 ∷ 2 ∷ 16 ∷ 3 ∷ 4 ∷ 5 ∷ 16 ∷ 6 ∷ 7 ∷ 8 ∷ 16 ∷ 9 ∷ 10 ∷ 11 ∷ 16 ∷ [])

words_of_3 : (bytes : List ℕ) → AreBytes bytes → 16 ≤ length bytes
    → digits_l 4294967296 4 (number_l 256 (opaque_bytes (take 16 bytes))) ≡ map word (take 4 (pixels_of_3 bytes))
words_of_3 (b0 ∷ b1 ∷ b2 ∷ b3 ∷ b4 ∷ b5 ∷ b6 ∷ b7 ∷ b8 ∷ b9 ∷ b10 ∷ b11 ∷ b12 ∷ b13 ∷ b14 ∷ b15 ∷ bytes) h l =
    lanes_of_bytes 4 (b0 ∷ b1 ∷ b2 ∷ 255 ∷ b3 ∷ b4 ∷ b5 ∷ 255 ∷ b6 ∷ b7 ∷ b8 ∷ 255 ∷ b9 ∷ b10 ∷ b11 ∷ 255 ∷ []) refl
    (h 0, (h 1, (h 2, (omega arith, (h 3, (h 4, (h 5, (omega arith, (h 6, (h 7, (h 8, (omega arith, (h 9, (h 10, (h 11, (omega arith, tt))))))))))))))))
words_of_3 _ h l = absurd (omega arith)

pub four_of_3 : (n : ℕ) (bytes : List ℕ) → n ≡ 3 → AreBytes bytes → 16 ≤ length bytes
    → digits_l 4294967296 4 (number_l 256 (opaque_bytes (take 16 bytes))) ≡ map word (take 4 (pixels_of n bytes))
four_of_3 n bytes e h l = words_of_3 bytes h l ∙ sym (ap (λ n. map word (take 4 (pixels_of n bytes))) e)

-- the bytes after the first four, and alphas between them
abbrev late_bytes : List ℕ → List ℕ
late_bytes v = pick_l 0 (v ++ replicate 16 255) (4 ∷ 5 ∷ 6 ∷ 16 ∷ 7 ∷ 8 ∷ 9 ∷ 16 ∷ 10 ∷ 11 ∷ 12 ∷ 16 ∷ 13 ∷ 14 ∷ 15 ∷ 16 ∷ [])

late_words_of_3 : (bytes : List ℕ) → AreBytes bytes → 16 ≤ length bytes
    → digits_l 4294967296 4 (number_l 256 (late_bytes (take 16 bytes))) ≡ map word (take 4 (pixels_of_3 (drop 4 bytes)))
late_words_of_3 (b0 ∷ b1 ∷ b2 ∷ b3 ∷ b4 ∷ b5 ∷ b6 ∷ b7 ∷ b8 ∷ b9 ∷ b10 ∷ b11 ∷ b12 ∷ b13 ∷ b14 ∷ b15 ∷ bytes) h l =
    lanes_of_bytes 4 (b4 ∷ b5 ∷ b6 ∷ 255 ∷ b7 ∷ b8 ∷ b9 ∷ 255 ∷ b10 ∷ b11 ∷ b12 ∷ 255 ∷ b13 ∷ b14 ∷ b15 ∷ 255 ∷ []) refl
    (h 4, (h 5, (h 6, (omega arith, (h 7, (h 8, (h 9, (omega arith, (h 10, (h 11, (h 12, (omega arith, (h 13, (h 14, (h 15, (omega arith, tt))))))))))))))))
late_words_of_3 _ h l = absurd (omega arith)

-- four pixels of three bytes after four bytes
pub late_four_of_3 : (n : ℕ) (bytes : List ℕ) → n ≡ 3 → AreBytes bytes → 16 ≤ length bytes
    → digits_l 4294967296 4 (number_l 256 (late_bytes (take 16 bytes))) ≡ map word (take 4 (pixels_of n (drop 4 bytes)))
late_four_of_3 n bytes e h l = late_words_of_3 bytes h l ∙ sym (ap (λ n. map word (take 4 (pixels_of n (drop 4 bytes)))) e)
