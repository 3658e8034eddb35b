-- Four chunks of at most four bytes each, from their codes.
use Rattle.std.proofs.Common.{◌≡◌, ◌≢◌, ℕ, ◌+◌, ◌*◌, ◌/◌, ◌%◌, ◌^◌, ◌<◌, ◌≤◌, List, [], ◌∷◌, ◌++◌, length, take, drop, replicate, slice_index, sym, ap, ◌∙◌, arith}
use Rattle.std.specs.Prelude.{min}
use Rattle.std.proofs.lemmas.List.{take-append-le}
use lib.Lanes.{digits_l, number_l, zip2}
use Rattle.qoi.specs.inner.block.Planes.{Words}
use Rattle.qoi.specs.inner.block.Storing.{HaveCodes, AreEight, size_of_code, size_at, total, close_bytes, chunk_of, sixteen_chunks}
use Rattle.qoi.proofs.encoding.stores.PrefixSums.{packed, reduced}

-- a size is at most 4
code_few : (c : ℕ) → c < 4 → size_of_code c ≤ 4
code_few c lt = grind arith

-- a size that has a code is what that means
coded : (s : ℕ) → (s ≤ 4) × (s ≢ 3) → size_of_code (min s 3) ≡ s
coded s has = let few = has.0 in let n = has.1 in grind arith

-- so is that of one of four codes
size_few : (i k : ℕ) → size_at i k ≤ 4
size_few i k = code_few (i / 4 ^ k % 4) (omega arith)

-- all four are at most 16
pub total_few : (i : ℕ) → total i ≤ 16
total_few i = omega (arith, size_few i 0, size_few i 1, size_few i 2, size_few i 3)

module _ (a b c d e f g h : ℕ) (la : a < 4) (lb : b < 4) (lc : c < 4) (ld : d < 4) (le : e < 4) (lf : f < 4) (lg : g < 4) (lh : h < 4) where
  -- the low 64 bits of the product that joins codes
  abbrev product : ℕ
  product = packed (64 * a) (16 * a + 64 * b) (4 * a + 16 * b + 64 * c) (a + 4 * b + 16 * c + 64 * d)
      (b + 4 * c + 16 * d + 64 * e) (c + 4 * d + 16 * e + 64 * f) (d + 4 * e + 16 * f + 64 * g) (e + 4 * f + 16 * g + 64 * h)

  -- it is these
  product_is : packed a b c d e f g h * 0x01041040 % 18446744073709551616 ≡ product
  product_is = reduced _ _ (packed (f + 4 * g + 16 * h) (g + 4 * h) h 0 0 0 0 0) (omega arith) (omega arith)

  -- the fourth byte joins the first four
  first_joined : product / 16777216 % 256 ≡ number_l 4 (a ∷ b ∷ c ∷ d ∷ [])
  first_joined = omega arith

  -- the last one the others
  second_joined : product / 72057594037927936 ≡ number_l 4 (e ∷ f ∷ g ∷ h ∷ [])
  second_joined = omega arith

-- codes joined by a product
pub codes_joined : (cs : List ℕ) (codes : ℕ) → AreEight 3 cs codes
    → codes * 0x01041040 % 18446744073709551616 / 16777216 % 256 ∷ codes * 0x01041040 % 18446744073709551616 / 72057594037927936 ∷ []
    ≡ number_l 4 (take 4 cs) ∷ number_l 4 (drop 4 cs) ∷ []
codes_joined (a ∷ b ∷ c ∷ d ∷ e ∷ f ∷ g ∷ h ∷ []) codes are =
    let n : (k : ℕ) → slice_index (a ∷ b ∷ c ∷ d ∷ e ∷ f ∷ g ∷ h ∷ []) k < 4 = λ k. omega (arith, are.few k) in
    let is : codes ≡ packed a b c d e f g h = (let i = are.is in omega arith) in
    let product = ap (λ m. m * 0x01041040 % 18446744073709551616) is ∙ product_is a b c d e f g h (n 0) (n 1) (n 2) (n 3) (n 4) (n 5) (n 6) (n 7) in
    let first = ap (λ m. m / 16777216 % 256) product ∙ first_joined a b c d e f g h (n 0) (n 1) (n 2) (n 3) (n 4) (n 5) (n 6) (n 7) in
    let second = ap (λ m. m / 72057594037927936) product ∙ second_joined a b c d e f g h (n 0) (n 1) (n 2) (n 3) (n 4) (n 5) (n 6) (n 7) in
    λ i. first i ∷ second i ∷ []
codes_joined cs codes are = absurd (let e = are.eight in omega arith)

-- a chunk of at most four bytes is the lowest ones of its number
chunk_close : (i k c s number alpha : ℕ) → i / 4 ^ k % 4 ≡ c → size_of_code c ≡ s → take (size_at i k) (digits_l 256 4 number) ≡ chunk_of s number alpha
chunk_close i k c s number alpha is size =
    let few = size_few i k in
    let same : size_at i k ≡ s = ap size_of_code is ∙ size in
    sym (take-append-le (size_at i k) (digits_l 256 4 number) (alpha ∷ []) few) ∙ ap (λ n. chunk_of n number alpha) same

-- four chunks whose sizes have these codes
four_close : (a b c d s t u v : ℕ) (ns : List ℕ) (w x y z : ℕ) → a < 4 → b < 4 → c < 4 → d < 4 → size_of_code a ≡ s → size_of_code b ≡ t → size_of_code c ≡ u → size_of_code d ≡ v
    → close_bytes (number_l 4 (a ∷ b ∷ c ∷ d ∷ [])) ns ≡ chunk_of s (slice_index ns 0) w ++ (chunk_of t (slice_index ns 1) x ++ (chunk_of u (slice_index ns 2) y ++ chunk_of v (slice_index ns 3) z))
four_close a b c d s t u v ns w x y z la lb lc ld es et eu ev =
    let i = number_l 4 (a ∷ b ∷ c ∷ d ∷ []) in
    let first = chunk_close i 0 a s (slice_index ns 0) w (omega arith) es in
    let second = chunk_close i 1 b t (slice_index ns 1) x (omega arith) et in
    let third = chunk_close i 2 c u (slice_index ns 2) y (omega arith) eu in
    let fourth = chunk_close i 3 d v (slice_index ns 3) z (omega arith) ev in
    λ j. first j ++ (second j ++ (third j ++ fourth j))

-- the codes of sizes
abbrev pub codes_of : List ℕ → List ℕ
codes_of ss = zip2 min ss (replicate 16 3)

-- sixteen chunks, four at a time
pub sixteen_close : (ss : List ℕ) (words : Words) (alphas : List ℕ) → length ss ≡ 16 → HaveCodes ss
    → (let first = take 8 (codes_of ss) in let second = drop 8 (codes_of ss) in
    close_bytes (number_l 4 (take 4 first)) words.one ++ (close_bytes (number_l 4 (drop 4 first)) words.two
    ++ (close_bytes (number_l 4 (take 4 second)) words.three ++ close_bytes (number_l 4 (drop 4 second)) words.four))) ≡ sixteen_chunks ss words alphas
sixteen_close (s0 ∷ s1 ∷ s2 ∷ s3 ∷ s4 ∷ s5 ∷ s6 ∷ s7 ∷ s8 ∷ s9 ∷ s10 ∷ s11 ∷ s12 ∷ s13 ∷ s14 ∷ s15 ∷ []) words alphas long have =
    let low : (s : ℕ) → min s 3 < 4 = λ s. omega arith in
    let byte : ℕ → ℕ = slice_index alphas in
    let one = four_close (min s0 3) (min s1 3) (min s2 3) (min s3 3) s0 s1 s2 s3 words.one (byte 0) (byte 1) (byte 2) (byte 3) (low s0) (low s1) (low s2) (low s3) (coded s0 (have 0)) (coded s1 (have 1)) (coded s2 (have 2)) (coded s3 (have 3)) in
    let two = four_close (min s4 3) (min s5 3) (min s6 3) (min s7 3) s4 s5 s6 s7 words.two (byte 4) (byte 5) (byte 6) (byte 7) (low s4) (low s5) (low s6) (low s7) (coded s4 (have 4)) (coded s5 (have 5)) (coded s6 (have 6)) (coded s7 (have 7)) in
    let three = four_close (min s8 3) (min s9 3) (min s10 3) (min s11 3) s8 s9 s10 s11 words.three (byte 8) (byte 9) (byte 10) (byte 11) (low s8) (low s9) (low s10) (low s11) (coded s8 (have 8)) (coded s9 (have 9)) (coded s10 (have 10)) (coded s11 (have 11)) in
    let four = four_close (min s12 3) (min s13 3) (min s14 3) (min s15 3) s12 s13 s14 s15 words.four (byte 12) (byte 13) (byte 14) (byte 15) (low s12) (low s13) (low s14) (low s15) (coded s12 (have 12)) (coded s13 (have 13)) (coded s14 (have 14)) (coded s15 (have 15)) in
    λ i. one i ++ (two i ++ (three i ++ four i))
sixteen_close ss words alphas long have = absurd (omega arith)
