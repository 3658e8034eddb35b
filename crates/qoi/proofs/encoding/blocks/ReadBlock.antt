-- Sixteen pixels at the front of raw bytes, read four at a time.
use Rattle.std.proofs.Common.{◌≡◌, ℕ, zero, suc, ◌*◌, ◌≤◌, List, [], ◌∷◌, ◌++◌, length, map, take, drop, refl, sym, ap, ◌∙◌, arith, subst}
use Rattle.std.specs.List.{AllByRecursion}
use Rattle.std.proofs.Math.Nat.{mul_comm}
use Rattle.std.proofs.lemmas.List.{take-append-drop, length-take-le}
use Rattle.qoi.specs.Qoi.{RgbaPixel, IsPixel, AreBytes}
use Rattle.qoi.specs.Raw.{IsChannels, pixels_of, pixels_of_3, pixels_of_4, AreOpaque}
use Rattle.qoi.specs.inner.Packed.{word, pixel_of_word}
use Rattle.qoi.proofs.format.RawPixels.{pixels_of_are, opaque_3}
use Rattle.qoi.proofs.format.WholePixels.{by_channels}
use Rattle.qoi.proofs.encoding.coder.CoderSteps.{all_bytes}
use Rattle.qoi.proofs.encoding.blocks.FourFours.{four_fours}
use Rattle.qoi.proofs.encoding.lists.GroupRuns.{pixels_drop}
use Rattle.qoi.proofs.format.PackedPixels.{unpacked}

-- packed pixels are these pixels
pub unpacked_all : (ps : List RgbaPixel) → AllByRecursion IsPixel ps → map pixel_of_word (map word ps) ≡ ps
unpacked_all [] a = refl
unpacked_all (p ∷ ps) a = λ i. unpacked p a.0 i ∷ unpacked_all ps a.1 i

-- the first of pixels
pub all_first : (P : RgbaPixel → Type 0) (n : ℕ) (ps : List RgbaPixel) → AllByRecursion P ps → AllByRecursion P (take n ps)
all_first P (suc n) (p ∷ ps) a = (a.0, all_first P n ps a.1)
all_first P n ps a = tt

-- in three channels the first sixteen are opaque
pub opaque_first : (n : ℕ) (bytes : List ℕ) → n ≡ 3 → AreOpaque (take 16 (pixels_of n bytes))
opaque_first n bytes three =
    all_first (λ (p : RgbaPixel). p.a ≡ 255) 16 (pixels_of n bytes) (subst (λ k. AreOpaque (pixels_of k bytes)) (sym three) (opaque_3 bytes))

-- n bytes a pixel
pub enough : (n k : ℕ) (bytes : List ℕ) → IsChannels n → n * k ≤ length bytes → k ≤ length (pixels_of n bytes)
enough n k bytes is = by_channels (λ m. m * k ≤ length bytes → k ≤ length (pixels_of m bytes)) is (three k bytes) (four k bytes)
  where
    three : (k : ℕ) (bytes : List ℕ) → 3 * k ≤ length bytes → k ≤ length (pixels_of_3 bytes)
    three zero bytes l = omega arith
    three (suc k) (r ∷ g ∷ b ∷ bytes) l = omega (arith, three k bytes (omega arith))
    three (suc k) bytes l = absurd (omega arith)

    four : (k : ℕ) (bytes : List ℕ) → 4 * k ≤ length bytes → k ≤ length (pixels_of_4 bytes)
    four zero bytes l = omega arith
    four (suc k) (r ∷ g ∷ b ∷ a ∷ bytes) l = omega (arith, four k bytes (omega arith))
    four (suc k) bytes l = absurd (omega arith)

-- what stands among sixteen pixels and others after them
pub record Within (qs ps : List RgbaPixel) : Type 0 where
  pub one : take 4 ps ≡ take 4 qs
  pub two : take 4 (drop 4 ps) ≡ take 4 (drop 4 qs)
  pub three : take 4 (drop 8 ps) ≡ take 4 (drop 8 qs)
  pub four : take 4 (drop 12 ps) ≡ take 4 (drop 12 qs)

-- four times four of them are the sixteen's
within : (qs rs : List RgbaPixel) → length qs ≡ 16 → Within qs (qs ++ rs)
within (p0 ∷ p1 ∷ p2 ∷ p3 ∷ p4 ∷ p5 ∷ p6 ∷ p7 ∷ p8 ∷ p9 ∷ p10 ∷ p11 ∷ p12 ∷ p13 ∷ p14 ∷ p15 ∷ []) rs e = record { one = refl; two = refl; three = refl; four = refl }
within qs rs e = absurd (omega arith)

-- four pixels from the k-th on, where qs are the first sixteen
four_on : (n k : ℕ) (bytes : List ℕ) (qs : List RgbaPixel) → IsChannels n → n * k ≤ length bytes
    → take 4 (drop k (pixels_of n bytes)) ≡ take 4 (drop k qs) → take 4 (pixels_of n (drop (k * n) bytes)) ≡ take 4 (drop k qs)
four_on n k bytes qs is inside e =
    let turned : k * n ≡ n * k = mul_comm k n in
    ap (λ z. take 4 (pixels_of n (drop z bytes))) turned ∙ ap (take 4) (sym (pixels_drop n k bytes is inside)) ∙ e

-- the sixteen pixels at the front, read four at a time
pub sixteen_read : (n : ℕ) (bytes one two three four : List ℕ) → IsChannels n → AreBytes bytes → 16 * n ≤ length bytes
    → one ≡ map word (take 4 (pixels_of n bytes)) → two ≡ map word (take 4 (pixels_of n (drop (4 * n) bytes)))
    → three ≡ map word (take 4 (pixels_of n (drop (8 * n) bytes))) → four ≡ map word (take 4 (pixels_of n (drop (12 * n) bytes)))
    → map pixel_of_word one ++ (map pixel_of_word two ++ (map pixel_of_word three ++ map pixel_of_word four)) ≡ take 16 (pixels_of n bytes)
sixteen_read n bytes one two three four is are long e1 e2 e3 e4 =
    let ps = pixels_of n bytes in
    let qs = take 16 ps in
    let few : n ≤ 4 = omega (arith, is) in
    let size : length qs ≡ 16 = length-take-le 16 ps (enough n 16 bytes is (omega arith)) in
    let all : AllByRecursion IsPixel qs = all_first IsPixel 16 ps (pixels_of_are n bytes is (all_bytes bytes are)) in
    let f = four_fours qs (record { long = size; are = all }) in
    let w = subst (Within qs) (take-append-drop 16 ps) (within qs (drop 16 ps) size) in
    let a = ap (map pixel_of_word) (e1 ∙ ap (map word) w.one) ∙ unpacked_all (take 4 qs) f.one.are in
    let b = ap (map pixel_of_word) (e2 ∙ ap (map word) (four_on n 4 bytes qs is (omega arith) w.two)) ∙ unpacked_all (take 4 (drop 4 qs)) f.two.are in
    let c = ap (map pixel_of_word) (e3 ∙ ap (map word) (four_on n 8 bytes qs is (omega arith) w.three)) ∙ unpacked_all (take 4 (drop 8 qs)) f.three.are in
    let d = ap (map pixel_of_word) (e4 ∙ ap (map word) (four_on n 12 bytes qs is (omega arith) w.four)) ∙ unpacked_all (take 4 (drop 12 qs)) f.four.are in
    (λ i. a i ++ (b i ++ (c i ++ d i))) ∙ f.whole
