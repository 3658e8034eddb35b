-- Chunks as numbers: four bytes, and alpha above them.
use Rattle.std.proofs.Common.{◌≡◌, ℕ, zero, suc, ◌+◌, ◌*◌, ◌/◌, ◌%◌, ◌<◌, ◌≤◌, List, [], ◌∷◌, ◌++◌, length, take, drop, replicate, slice_index, map, refl, append_assoc, w8, w32, Fits, ap, ◌∙◌, arith}
use Rattle.std.specs.List.{AllByRecursion}
use Rattle.std.proofs.lemmas.List.{take-append-le}
use lib.Lanes.{digits_l, number_l, pick_l, Each1}
use Rattle.qoi.specs.Qoi.{RgbaPixel, IsPixel, pixel}
use Rattle.qoi.specs.inner.Packed.{word}
use Rattle.qoi.specs.inner.block.Planes.{Words, AreSixteen, ArePlanes, AreBlockWords}
use Rattle.qoi.specs.inner.block.Storing.{HoldChunks, four_parts, chunk_of, four_chunks, sixteen_chunks}
use Rattle.qoi.proofs.encoding.stores.Shuffles.{number_bytes, four_bytes}

-- a byte as the red of a pixel that is 0 otherwise
abbrev wide : ℕ → RgbaPixel
wide a = pixel a 0 0 0

-- it is the packed pixel
narrow : (a : ℕ) → word (wide a) ≡ a
narrow a = omega arith

-- they are pixels
are_pixels : (xs : List ℕ) → Each1 (Fits w8) xs → AllByRecursion IsPixel (map wide xs)
are_pixels [] f = tt
are_pixels (x ∷ xs) f = (record { r = f.0.fits; g = omega arith; b = omega arith; a = omega arith }, are_pixels xs f.1)

-- sixteen bytes as numbers
pub widened_are : (xs : List ℕ) (w : Words) → length xs ≡ 16 → Each1 (Fits w8) xs
    → ((ps : List RgbaPixel) → AreSixteen ps → ArePlanes ps (record { r = xs; g = replicate 16 0; b = replicate 16 0; a = replicate 16 0 }) → AreBlockWords ps w)
    → (w.one ≡ take 4 xs) × (w.two ≡ take 4 (drop 4 xs)) × (w.three ≡ take 4 (drop 8 xs)) × (w.four ≡ take 4 (drop 12 xs))
widened_are (x0 ∷ x1 ∷ x2 ∷ x3 ∷ x4 ∷ x5 ∷ x6 ∷ x7 ∷ x8 ∷ x9 ∷ x10 ∷ x11 ∷ x12 ∷ x13 ∷ x14 ∷ x15 ∷ []) w e f made =
    let xs : List ℕ = x0 ∷ x1 ∷ x2 ∷ x3 ∷ x4 ∷ x5 ∷ x6 ∷ x7 ∷ x8 ∷ x9 ∷ x10 ∷ x11 ∷ x12 ∷ x13 ∷ x14 ∷ x15 ∷ [] in
    let is = made (map wide xs) (record { long = refl; are = are_pixels xs f }) (record { r_is = refl; g_is = refl; b_is = refl; a_is = refl }) in (
      is.one_are.words_are ∙ (λ i. narrow x0 i ∷ narrow x1 i ∷ narrow x2 i ∷ narrow x3 i ∷ []),
      is.two_are.words_are ∙ (λ i. narrow x4 i ∷ narrow x5 i ∷ narrow x6 i ∷ narrow x7 i ∷ []),
      is.three_are.words_are ∙ (λ i. narrow x8 i ∷ narrow x9 i ∷ narrow x10 i ∷ narrow x11 i ∷ []),
      is.four_are.words_are ∙ (λ i. narrow x12 i ∷ narrow x13 i ∷ narrow x14 i ∷ narrow x15 i ∷ []),
    )
widened_are xs w e f made = absurd (omega arith)

-- the number of a number's four bytes and those of what is above
whole : (n r : ℕ) → n < 4294967296 → r < 4294967296 → number_l 256 (digits_l 256 4 n ++ digits_l 256 4 r) ≡ n + 4294967296 * r
whole n r ln lr = omega arith

-- the lower halves of two vectors, by turns, as bytes
abbrev evens : List ℕ → List ℕ → List ℕ
evens p q = digits_l 256 16 (number_l 4294967296 (pick_l 0 (p ++ q) (0 ∷ 4 ∷ 1 ∷ 5 ∷ [])))

-- the upper halves
abbrev odds : List ℕ → List ℕ → List ℕ
odds p q = digits_l 256 16 (number_l 4294967296 (pick_l 0 (p ++ q) (2 ∷ 6 ∷ 3 ∷ 7 ∷ [])))

-- the halves of four numbers' bytes
halved : (a b c d : ℕ) → a < 4294967296 → b < 4294967296 → c < 4294967296 → d < 4294967296
    → (let v = digits_l 256 16 (number_l 4294967296 (a ∷ b ∷ c ∷ d ∷ [])) in number_l 256 (take 8 v) ∷ number_l 256 (drop 8 v) ∷ [])
    ≡ (a + 4294967296 * b) ∷ (c + 4294967296 * d) ∷ []
halved a b c d la lb lc ld =
    ap (λ v. number_l 256 (take 8 v) ∷ number_l 256 (drop 8 v) ∷ []) (four_bytes a b c d la lb lc ld)
    ∙ (λ i. whole a b la lb i ∷ whole c d lc ld i ∷ [])

-- a chunk is the lowest bytes of its number with alpha above
part_is : (s n a m : ℕ) → s ≤ 5 → n < 4294967296 → a < 256 → m ≡ n + 4294967296 * a → take s (digits_l 256 8 m) ≡ chunk_of s n a
part_is s n a m few ln la is =
    let same : a % 256 ≡ a = omega arith in
    ap (λ z. take s (digits_l 256 8 z)) is ∙ ap (take s) (number_bytes 4 n a ln ∙ (λ i. digits_l 256 4 n ++ same i ∷ digits_l 256 3 (a / 256)))
    ∙ take-append-le s (digits_l 256 4 n ++ a ∷ []) (digits_l 256 3 (a / 256)) few

-- one of four numbers, by turns
kth_held : (n0 n1 n2 n3 a0 a1 a2 a3 : ℕ) (low high : List ℕ) → Each1 (Fits w32) (n0 ∷ n1 ∷ n2 ∷ n3 ∷ [])
    → low ≡ (n0 + 4294967296 * a0) ∷ (n1 + 4294967296 * a1) ∷ [] → high ≡ (n2 + 4294967296 * a2) ∷ (n3 + 4294967296 * a3) ∷ []
    → (s k : ℕ) → s ≤ 5 → k < 4 → slice_index (a0 ∷ a1 ∷ a2 ∷ a3 ∷ []) k < 256
    → take s (digits_l 256 8 (slice_index (slice_index low 0 ∷ slice_index low 1 ∷ slice_index high 0 ∷ slice_index high 1 ∷ []) k))
    ≡ chunk_of s (slice_index (n0 ∷ n1 ∷ n2 ∷ n3 ∷ []) k) (slice_index (a0 ∷ a1 ∷ a2 ∷ a3 ∷ []) k)
kth_held n0 n1 n2 n3 a0 a1 a2 a3 low high f l h s zero few lt small = part_is s n0 a0 _ few f.0.fits small (ap (λ z. slice_index z 0) l)
kth_held n0 n1 n2 n3 a0 a1 a2 a3 low high f l h s (suc zero) few lt small = part_is s n1 a1 _ few f.1.0.fits small (ap (λ z. slice_index z 1) l)
kth_held n0 n1 n2 n3 a0 a1 a2 a3 low high f l h s (suc (suc zero)) few lt small = part_is s n2 a2 _ few f.1.1.0.fits small (ap (λ z. slice_index z 0) h)
kth_held n0 n1 n2 n3 a0 a1 a2 a3 low high f l h s (suc (suc (suc zero))) few lt small = part_is s n3 a3 _ few f.1.1.1.0.fits small (ap (λ z. slice_index z 1) h)
kth_held n0 n1 n2 n3 a0 a1 a2 a3 low high f l h s (suc (suc (suc (suc k)))) few lt small = absurd (omega arith)

-- four numbers with alphas above them, by turns
pub chunks_held : (ns xs low high : List ℕ) → length ns ≡ 4 → Each1 (Fits w32) ns → length xs ≡ 4 → Each1 (Fits w32) xs
    → (let v = evens ns xs in low ≡ number_l 256 (take 8 v) ∷ number_l 256 (drop 8 v) ∷ [])
    → (let v = odds ns xs in high ≡ number_l 256 (take 8 v) ∷ number_l 256 (drop 8 v) ∷ [])
    → HoldChunks (slice_index low 0 ∷ slice_index low 1 ∷ slice_index high 0 ∷ slice_index high 1 ∷ []) ns xs
chunks_held (n0 ∷ n1 ∷ n2 ∷ n3 ∷ []) (a0 ∷ a1 ∷ a2 ∷ a3 ∷ []) low high ln fn la fa el eh =
    let l = el ∙ halved n0 a0 n1 a1 fn.0.fits fa.0.fits fn.1.0.fits fa.1.0.fits in
    let h = eh ∙ halved n2 a2 n3 a3 fn.1.1.0.fits fa.1.1.0.fits fn.1.1.1.0.fits fa.1.1.1.0.fits in
    record { parts = λ s k few lt small. kth_held n0 n1 n2 n3 a0 a1 a2 a3 low high fn l h s k few lt small }
chunks_held ns xs low high ln fn la fa el eh = absurd (omega arith)

-- four of them
four_held : (s t u v : ℕ) (ms ns : List ℕ) (a b c d : ℕ) → s ≤ 5 → t ≤ 5 → u ≤ 5 → v ≤ 5 → HoldChunks ms ns (a ∷ b ∷ c ∷ d ∷ []) → a < 256 → b < 256 → c < 256 → d < 256
    → four_parts (s ∷ t ∷ u ∷ v ∷ []) 0 ms ≡ four_chunks (s ∷ t ∷ u ∷ v ∷ []) ns (a ∷ b ∷ c ∷ d ∷ []) 0
four_held s t u v ms ns a b c d ls lt lu lv held la lb lc ld =
    let first = held.parts s 0 ls (omega arith) la in
    let second = held.parts t 1 lt (omega arith) lb in
    let third = held.parts u 2 lu (omega arith) lc in
    let fourth = held.parts v 3 lv (omega arith) ld in
    λ i. first i ++ (second i ++ (third i ++ fourth i))

-- sixteen chunks are twice eight
pub twice_eight : (ss alphas : List ℕ) (w : Words) (m1 m2 m3 m4 : List ℕ) → length ss ≡ 16 → ((k : ℕ) → slice_index ss k ≤ 5) → length alphas ≡ 16 → Each1 (Fits w8) alphas
    → HoldChunks m1 w.one (take 4 alphas) → HoldChunks m2 w.two (take 4 (drop 4 alphas))
    → HoldChunks m3 w.three (take 4 (drop 8 alphas)) → HoldChunks m4 w.four (take 4 (drop 12 alphas))
    → (four_parts (take 8 ss) 0 m1 ++ four_parts (take 8 ss) 4 m2) ++ (four_parts (drop 8 ss) 0 m3 ++ four_parts (drop 8 ss) 4 m4) ≡ sixteen_chunks ss w alphas
twice_eight (s0 ∷ s1 ∷ s2 ∷ s3 ∷ s4 ∷ s5 ∷ s6 ∷ s7 ∷ s8 ∷ s9 ∷ s10 ∷ s11 ∷ s12 ∷ s13 ∷ s14 ∷ s15 ∷ []) (x0 ∷ x1 ∷ x2 ∷ x3 ∷ x4 ∷ x5 ∷ x6 ∷ x7 ∷ x8 ∷ x9 ∷ x10 ∷ x11 ∷ x12 ∷ x13 ∷ x14 ∷ x15 ∷ []) w m1 m2 m3 m4 long few e f h1 h2 h3 h4 =
    let ss : List ℕ = s0 ∷ s1 ∷ s2 ∷ s3 ∷ s4 ∷ s5 ∷ s6 ∷ s7 ∷ s8 ∷ s9 ∷ s10 ∷ s11 ∷ s12 ∷ s13 ∷ s14 ∷ s15 ∷ [] in
    let xs : List ℕ = x0 ∷ x1 ∷ x2 ∷ x3 ∷ x4 ∷ x5 ∷ x6 ∷ x7 ∷ x8 ∷ x9 ∷ x10 ∷ x11 ∷ x12 ∷ x13 ∷ x14 ∷ x15 ∷ [] in
    let g = f.1.1.1.1 in
    let h = g.1.1.1.1 in
    let j = h.1.1.1.1 in
    let one = four_held s0 s1 s2 s3 m1 w.one x0 x1 x2 x3 (few 0) (few 1) (few 2) (few 3) h1 f.0.fits f.1.0.fits f.1.1.0.fits f.1.1.1.0.fits in
    let two = four_held s4 s5 s6 s7 m2 w.two x4 x5 x6 x7 (few 4) (few 5) (few 6) (few 7) h2 g.0.fits g.1.0.fits g.1.1.0.fits g.1.1.1.0.fits in
    let three = four_held s8 s9 s10 s11 m3 w.three x8 x9 x10 x11 (few 8) (few 9) (few 10) (few 11) h3 h.0.fits h.1.0.fits h.1.1.0.fits h.1.1.1.0.fits in
    let four = four_held s12 s13 s14 s15 m4 w.four x12 x13 x14 x15 (few 12) (few 13) (few 14) (few 15) h4 j.0.fits j.1.0.fits j.1.1.0.fits j.1.1.1.0.fits in
    (λ i. (one i ++ two i) ++ (three i ++ four i))
    ∙ append_assoc (four_chunks ss w.one xs 0) (four_chunks ss w.two xs 4) (four_chunks ss w.three xs 8 ++ four_chunks ss w.four xs 12)
twice_eight ss alphas w m1 m2 m3 m4 long few e f h1 h2 h3 h4 = absurd (omega arith)
