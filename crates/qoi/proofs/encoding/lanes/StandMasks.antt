-- Masks of packed pixels that are equal.
use Rattle.std.proofs.Common.{◌≡◌, ◌≢◌, ◌⊎◌, inl, inr, ℕ, ◌<◌, Bool, true, false, cond, eqb, List, [], ◌∷◌, ◌++◌, length, map, replicate, refl, sym, ap, ◌∙◌, arith}
use Rattle.std.specs.List.{range_with_len}
use Rattle.std.proofs.lemmas.Bool.{eq-eqb, ne_eqb}
use lib.Lanes.{number_l, digits_l, pick_l, zip2, sel_l, top}
use Rattle.qoi.specs.Qoi.{RgbaPixel, IsPixel, pixel_eq}
use Rattle.qoi.specs.inner.Packed.{word, pixel_of_word}
use Rattle.qoi.proofs.format.SamePixels.{cases_pixel, pixel_eq-from, pixel_eq-ne}
use Rattle.qoi.proofs.format.PackedPixels.{unpacked}
use Rattle.qoi.proofs.encoding.stores.Shuffles.{four_bytes}
use Rattle.qoi.specs.inner.block.Lanes.{mask}
use Rattle.qoi.specs.inner.block.Planes.{AreFourWords}
use Rattle.qoi.specs.inner.block.Positions.{four_times}

-- equal words are equal pixels
pub same_words : (p q : RgbaPixel) → IsPixel p → IsPixel q → eqb (word p) (word q) ≡ pixel_eq p q
same_words p q ip iq = go (cases_pixel p q)
  where
    go : (p ≡ q) ⊎ (p ≢ q) → eqb (word p) (word q) ≡ pixel_eq p q
    go (inl e) = eq-eqb _ _ (ap word e) ∙ sym (pixel_eq-from p q e)
    go (inr n) = ne_eqb _ _ (λ e. n (sym (unpacked p ip) ∙ ap pixel_of_word e ∙ unpacked q iq)) ∙ sym (pixel_eq-ne p q n)

-- a mask of 32 bits
abbrev wide : Bool → ℕ
wide b = cond b 4294967295 0

-- its bytes
wide_mask : (b : Bool) → digits_l 256 4 (wide b) ≡ mask b ∷ mask b ∷ mask b ∷ mask b ∷ []
wide_mask true = refl
wide_mask false = refl

-- it has 32 bits
wide_below : (b : Bool) → wide b < 4294967296
wide_below b = grind arith

-- four of them as bytes
wide_bytes : (a b c d : Bool) → digits_l 256 16 (number_l 4294967296 (wide a ∷ wide b ∷ wide c ∷ wide d ∷ [])) ≡ four_times (a ∷ b ∷ c ∷ d ∷ [])
wide_bytes a b c d =
    four_bytes (wide a) (wide b) (wide c) (wide d) (wide_below a) (wide_below b) (wide_below c) (wide_below d)
    ∙ (λ i. wide_mask a i ++ (wide_mask b i ++ (wide_mask c i ++ wide_mask d i)))

-- a choice by the highest bit of a mask
picked : (b : Bool) → ◌≡◌ {A = ℕ} (cond (top 31 (cond b 4294967295 0)) 4294967295 0) (cond b 4294967295 0)
picked true = refl
picked false = refl

-- all bits if both are the same
abbrev same : ℕ → ℕ → ℕ
same a b = cond (eqb a b) 4294967295 0

-- the bytes of the masks
abbrev compared : List ℕ → List ℕ → List ℕ
compared xs ys = digits_l 256 16 (number_l 4294967296 (sel_l (map (top 31) (zip2 same xs ys)) (replicate 4 4294967295) (replicate 4 0)))

-- which of four packed pixels are the same
pub equal_is : (qs ps : List RgbaPixel) (a b : List ℕ) → AreFourWords qs a → AreFourWords ps b → compared a b ≡ four_times (zip2 pixel_eq qs ps)
equal_is (q0 ∷ q1 ∷ q2 ∷ q3 ∷ []) (p0 ∷ p1 ∷ p2 ∷ p3 ∷ []) a b found are =
    let i = are.are in
    let h = found.are in
    let test = λ (q p : RgbaPixel) (iq : IsPixel q) (ip : IsPixel p). picked (eqb (word q) (word p)) ∙ ap (λ z. cond z 4294967295 0) (same_words q p iq ip) in
    (λ j. compared (found.words_are j) (are.words_are j))
    ∙ (λ j. digits_l 256 16 (number_l 4294967296 (test q0 p0 h.0 i.0 j ∷ test q1 p1 h.1.0 i.1.0 j ∷ test q2 p2 h.1.1.0 i.1.1.0 j ∷ test q3 p3 h.1.1.1.0 i.1.1.1.0 j ∷ [])))
    ∙ wide_bytes _ _ _ _
equal_is qs ps a b found are = absurd (omega (arith, found.four, are.four))

-- the first byte of each four of two vectors
abbrev pub one_of_eight : List ℕ → List ℕ → List ℕ
one_of_eight xs ys = pick_l 0 (xs ++ ys) (0 ∷ 4 ∷ 8 ∷ 12 ∷ 16 ∷ 20 ∷ 24 ∷ 28 ∷ [])

-- of four
abbrev pub one_of_sixteen : List ℕ → List ℕ → List ℕ → List ℕ → List ℕ
one_of_sixteen a b c d = pick_l 0 (one_of_eight a b ++ one_of_eight c d) (range_with_len 0 16)

-- one byte of each four that are the same
pub one_of_same : (p q r s : List Bool) (a b c d : List ℕ) → length p ≡ 4 → length q ≡ 4 → length r ≡ 4 → length s ≡ 4
    → a ≡ four_times p → b ≡ four_times q → c ≡ four_times r → d ≡ four_times s → one_of_sixteen a b c d ≡ map mask (p ++ (q ++ (r ++ s)))
one_of_same (p0 ∷ p1 ∷ p2 ∷ p3 ∷ []) (q0 ∷ q1 ∷ q2 ∷ q3 ∷ []) (r0 ∷ r1 ∷ r2 ∷ r3 ∷ []) (s0 ∷ s1 ∷ s2 ∷ s3 ∷ []) a b c d lp lq lr ls ea eb ec ed =
    λ i. one_of_sixteen (ea i) (eb i) (ec i) (ed i)
one_of_same p q r s a b c d lp lq lr ls ea eb ec ed = absurd (omega arith)
