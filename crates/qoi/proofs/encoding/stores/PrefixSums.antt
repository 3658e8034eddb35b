-- Prefix sums by one product, and sixteen bytes as two numbers.
use Rattle.std.proofs.Common.{◌≡◌, ℕ, suc, ◌+◌, ◌*◌, ◌/◌, ◌%◌, ◌^◌, ◌<◌, List, [], ◌∷◌, length, ap, ◌∙◌, arith, take, drop, w8, Fits}
use lib.Lanes.{sum_l, number_l, digits_l, Each1}
use Rattle.qoi.specs.inner.block.Storing.{AreEight}

-- eight numbers as the digits of one
abbrev pub packed : ℕ → ℕ → ℕ → ℕ → ℕ → ℕ → ℕ → ℕ → ℕ
packed a b c d e f g h = a + 256 * (b + 256 * (c + 256 * (d + 256 * (e + 256 * (f + 256 * (g + 256 * h))))))

-- the low 64 bits
pub reduced : (x y q : ℕ) → x ≡ y + 18446744073709551616 * q → y < 18446744073709551616 → x % 18446744073709551616 ≡ y
reduced x y q e l = omega arith

-- the product has the sums as its digits
summed : (a b c d e f g h : ℕ) → a + b + c + d + e + f + g + h < 256
    → packed a b c d e f g h * 0x0101010101010101 % 18446744073709551616
    ≡ packed a (a + b) (a + b + c) (a + b + c + d) (a + b + c + d + e) (a + b + c + d + e + f) (a + b + c + d + e + f + g) (a + b + c + d + e + f + g + h)
summed a b c d e f g h l = reduced _ _ (packed (b + c + d + e + f + g + h) (c + d + e + f + g + h) (d + e + f + g + h) (e + f + g + h) (f + g + h) (g + h) h 0) (omega arith) (omega arith)

-- each digit of such a number is the sum of the first ones
digit : (a b c d e f g h : ℕ) → a + b + c + d + e + f + g + h < 256 → (k : ℕ) → k < 8
    → packed a (a + b) (a + b + c) (a + b + c + d) (a + b + c + d + e) (a + b + c + d + e + f) (a + b + c + d + e + f + g) (a + b + c + d + e + f + g + h) / 2 ^ (8 * k) % 256
    ≡ sum_l (take (k + 1) (a ∷ b ∷ c ∷ d ∷ e ∷ f ∷ g ∷ h ∷ []))
digit a b c d e f g h few (suc (suc (suc (suc (suc (suc (suc (suc k)))))))) lt = absurd (omega arith)
digit a b c d e f g h few k lt = omega arith

-- a digit of the product is the sum of the first sizes
pub prefix_sums : (ss : List ℕ) (sizes : ℕ) → AreEight 5 ss sizes → (k : ℕ) → k < 8
    → sizes * 0x0101010101010101 % 18446744073709551616 / 2 ^ (8 * k) % 256 ≡ sum_l (take (k + 1) ss)
prefix_sums (a ∷ b ∷ c ∷ d ∷ e ∷ f ∷ g ∷ h ∷ []) sizes are k lt =
    let few : a + b + c + d + e + f + g + h < 256 = omega (arith, are.few 0, are.few 1, are.few 2, are.few 3, are.few 4, are.few 5, are.few 6, are.few 7) in
    let is : sizes ≡ packed a b c d e f g h = (let e = are.is in omega arith) in
    ap (λ n. n * 0x0101010101010101 % 18446744073709551616 / 2 ^ (8 * k) % 256) is
    ∙ ap (λ n. n / 2 ^ (8 * k) % 256) (summed a b c d e f g h few)
    ∙ digit a b c d e f g h few k lt
prefix_sums _ sizes are k lt = absurd (let l = are.eight in omega arith)

-- the high 64 bits
high : (x y q : ℕ) → x ≡ y + 18446744073709551616 * q → y < 18446744073709551616 → q < 18446744073709551616 → x / 18446744073709551616 % 18446744073709551616 ≡ q
high x y q e l m = omega arith

-- eight bytes fit 64 bits
eight : (a b c d e f g h : ℕ) → a < 256 → b < 256 → c < 256 → d < 256 → e < 256 → f < 256 → g < 256 → h < 256
    → number_l 256 (a ∷ b ∷ c ∷ d ∷ e ∷ f ∷ g ∷ h ∷ []) < 18446744073709551616
eight a b c d e f g h la lb lc ld le lf lg lh = omega arith

-- sixteen bytes as two numbers
pub as_halves : (xs : List ℕ) → length xs ≡ 16 → Each1 (Fits w8) xs → digits_l 18446744073709551616 2 (number_l 256 xs)
    ≡ number_l 256 (take 8 xs) ∷ number_l 256 (drop 8 xs) ∷ []
as_halves (x0 ∷ x1 ∷ x2 ∷ x3 ∷ x4 ∷ x5 ∷ x6 ∷ x7 ∷ x8 ∷ x9 ∷ x10 ∷ x11 ∷ x12 ∷ x13 ∷ x14 ∷ x15 ∷ []) e f =
    let y = number_l 256 (x0 ∷ x1 ∷ x2 ∷ x3 ∷ x4 ∷ x5 ∷ x6 ∷ x7 ∷ []) in
    let q = number_l 256 (x8 ∷ x9 ∷ x10 ∷ x11 ∷ x12 ∷ x13 ∷ x14 ∷ x15 ∷ []) in
    let ly = eight x0 x1 x2 x3 x4 x5 x6 x7 f.0.fits f.1.0.fits f.1.1.0.fits f.1.1.1.0.fits f.1.1.1.1.0.fits f.1.1.1.1.1.0.fits f.1.1.1.1.1.1.0.fits f.1.1.1.1.1.1.1.0.fits in
    let g = f.1.1.1.1.1.1.1.1 in
    let lq = eight x8 x9 x10 x11 x12 x13 x14 x15 g.0.fits g.1.0.fits g.1.1.0.fits g.1.1.1.0.fits g.1.1.1.1.0.fits g.1.1.1.1.1.0.fits g.1.1.1.1.1.1.0.fits g.1.1.1.1.1.1.1.0.fits in
    let whole : number_l 256 (x0 ∷ x1 ∷ x2 ∷ x3 ∷ x4 ∷ x5 ∷ x6 ∷ x7 ∷ x8 ∷ x9 ∷ x10 ∷ x11 ∷ x12 ∷ x13 ∷ x14 ∷ x15 ∷ []) ≡ y + 18446744073709551616 * q = omega arith in
    λ i. reduced _ y q whole ly i ∷ high _ y q whole ly lq i ∷ []
as_halves xs e f = absurd (omega arith)
