-- Packed pixels from their planes; the bytes of packed pixels, and their planes.
use Rattle.std.proofs.Common.{◌≡◌, ℕ, suc, ◌+◌, ◌*◌, ◌/◌, ◌%◌, List, [], ◌∷◌, ◌++◌, map, refl, sym, ap, ◌∙◌, arith, subst, ◌<◌, length, take, drop}
use Rattle.std.specs.List.{AllByRecursion}
use lib.Lanes.{number_l, digits_l, pick_l}
use Rattle.qoi.specs.Qoi.{RgbaPixel, IsPixel, pixel}
use Rattle.qoi.specs.inner.Packed.{word}
use Rattle.qoi.specs.inner.block.Planes.{Planes, AreFourWords, ArePlanes, AreSixteen, channel_words}
use Rattle.qoi.proofs.encoding.blocks.FourFours.{AreFourPixels, four_fours}
use Rattle.qoi.proofs.encoding.stores.Shuffles.{four_bytes}

-- one packed pixel after the other
one_word : (n : ℕ) (p : RgbaPixel) (i : IsPixel p) (bs : List ℕ)
    → digits_l 4294967296 (suc n) (number_l 256 (p.r ∷ p.g ∷ p.b ∷ p.a ∷ bs)) ≡ word p ∷ digits_l 4294967296 n (number_l 256 bs)
one_word n p i bs =
    let r = number_l 256 bs in
    let first : (p.r + 256 * (p.g + 256 * (p.b + 256 * (p.a + 256 * r)))) % 4294967296 ≡ word p = omega (arith, i.r, i.g, i.b, i.a) in
    let above : (p.r + 256 * (p.g + 256 * (p.b + 256 * (p.a + 256 * r)))) / 4294967296 ≡ r = omega (arith, i.r, i.g, i.b, i.a) in
    λ j. first j ∷ digits_l 4294967296 n (above j)

-- the bytes of four pixels
abbrev bytes_of_four : RgbaPixel → RgbaPixel → RgbaPixel → RgbaPixel → List ℕ
bytes_of_four p q s t = p.r ∷ p.g ∷ p.b ∷ p.a ∷ q.r ∷ q.g ∷ q.b ∷ q.a ∷ s.r ∷ s.g ∷ s.b ∷ s.a ∷ t.r ∷ t.g ∷ t.b ∷ t.a ∷ []

-- the four packed pixels of their bytes
pub four_words : (p q s t : RgbaPixel) → IsPixel p → IsPixel q → IsPixel s → IsPixel t
    → digits_l 4294967296 4 (number_l 256 (bytes_of_four p q s t)) ≡ word p ∷ word q ∷ word s ∷ word t ∷ []
four_words p q s t ip iq is it =
    one_word 3 p ip (q.r ∷ q.g ∷ q.b ∷ q.a ∷ s.r ∷ s.g ∷ s.b ∷ s.a ∷ t.r ∷ t.g ∷ t.b ∷ t.a ∷ [])
    ∙ ap (λ z. word p ∷ z) (one_word 2 q iq (s.r ∷ s.g ∷ s.b ∷ s.a ∷ t.r ∷ t.g ∷ t.b ∷ t.a ∷ [])
    ∙ ap (λ z. word q ∷ z) (one_word 1 s is (t.r ∷ t.g ∷ t.b ∷ t.a ∷ []) ∙ ap (λ z. word s ∷ z) (one_word 0 t it [])))

-- the lower halves of two vectors, a byte from each by turns
abbrev low_pairs : List ℕ → List ℕ → List ℕ
low_pairs xs ys = pick_l 0 (xs ++ ys) (0 ∷ 16 ∷ 1 ∷ 17 ∷ 2 ∷ 18 ∷ 3 ∷ 19 ∷ 4 ∷ 20 ∷ 5 ∷ 21 ∷ 6 ∷ 22 ∷ 7 ∷ 23 ∷ [])

-- the upper halves
abbrev high_pairs : List ℕ → List ℕ → List ℕ
high_pairs xs ys = pick_l 0 (xs ++ ys) (8 ∷ 24 ∷ 9 ∷ 25 ∷ 10 ∷ 26 ∷ 11 ∷ 27 ∷ 12 ∷ 28 ∷ 13 ∷ 29 ∷ 14 ∷ 30 ∷ 15 ∷ 31 ∷ [])

-- the lower halves, two bytes from each by turns
abbrev low_fours : List ℕ → List ℕ → List ℕ
low_fours xs ys = pick_l 0 (xs ++ ys) (0 ∷ 1 ∷ 16 ∷ 17 ∷ 2 ∷ 3 ∷ 18 ∷ 19 ∷ 4 ∷ 5 ∷ 20 ∷ 21 ∷ 6 ∷ 7 ∷ 22 ∷ 23 ∷ [])

-- the upper halves
abbrev high_fours : List ℕ → List ℕ → List ℕ
high_fours xs ys = pick_l 0 (xs ++ ys) (8 ∷ 9 ∷ 24 ∷ 25 ∷ 10 ∷ 11 ∷ 26 ∷ 27 ∷ 12 ∷ 13 ∷ 28 ∷ 29 ∷ 14 ∷ 15 ∷ 30 ∷ 31 ∷ [])

-- sixteen bytes as four numbers
abbrev to_words : List ℕ → List ℕ
to_words bs = digits_l 4294967296 4 (number_l 256 bs)

-- four packed pixels from the bytes of four
words_are : (ps : List RgbaPixel) (bs : List ℕ) → AreFourPixels ps → (p q s t : RgbaPixel) → ps ≡ p ∷ q ∷ s ∷ t ∷ [] → bs ≡ bytes_of_four p q s t
    → AreFourWords ps (to_words bs)
words_are ps bs all p q s t e b =
    let i = subst (AllByRecursion IsPixel) e all.are in
    record { four = all.four; are = all.are; words_are = ap to_words b ∙ four_words p q s t i.0 i.1.0 i.1.1.0 i.1.1.1.0 ∙ sym (ap (map word) e) }

-- the packed pixels of planes
pub all_words : (ps qs rs ts : List RgbaPixel) (x : Planes) → AreFourPixels ps → AreFourPixels qs → AreFourPixels rs → AreFourPixels ts
    → ArePlanes (ps ++ (qs ++ (rs ++ ts))) x
    → AreFourWords ps (to_words (low_fours (low_pairs x.r x.g) (low_pairs x.b x.a)))
    × AreFourWords qs (to_words (high_fours (low_pairs x.r x.g) (low_pairs x.b x.a)))
    × AreFourWords rs (to_words (low_fours (high_pairs x.r x.g) (high_pairs x.b x.a)))
    × AreFourWords ts (to_words (high_fours (high_pairs x.r x.g) (high_pairs x.b x.a)))
all_words (p0 ∷ p1 ∷ p2 ∷ p3 ∷ []) (q0 ∷ q1 ∷ q2 ∷ q3 ∷ []) (s0 ∷ s1 ∷ s2 ∷ s3 ∷ []) (t0 ∷ t1 ∷ t2 ∷ t3 ∷ []) x fp fq fr ft e = (
  words_are (p0 ∷ p1 ∷ p2 ∷ p3 ∷ []) _ fp p0 p1 p2 p3 refl (λ i. low_fours (low_pairs (e.r_is i) (e.g_is i)) (low_pairs (e.b_is i) (e.a_is i))),
  words_are (q0 ∷ q1 ∷ q2 ∷ q3 ∷ []) _ fq q0 q1 q2 q3 refl (λ i. high_fours (low_pairs (e.r_is i) (e.g_is i)) (low_pairs (e.b_is i) (e.a_is i))),
  words_are (s0 ∷ s1 ∷ s2 ∷ s3 ∷ []) _ fr s0 s1 s2 s3 refl (λ i. low_fours (high_pairs (e.r_is i) (e.g_is i)) (high_pairs (e.b_is i) (e.a_is i))),
  words_are (t0 ∷ t1 ∷ t2 ∷ t3 ∷ []) _ ft t0 t1 t2 t3 refl (λ i. high_fours (high_pairs (e.r_is i) (e.g_is i)) (high_pairs (e.b_is i) (e.a_is i))),
)
all_words ps qs rs ts x fp fq fr ft e = absurd (omega (arith, fp.four, fq.four, fr.four, ft.four))

-- a packed pixel is the number of its bytes
packed : (a b c d : ℕ) → word (pixel a b c d) ≡ number_l 256 (a ∷ b ∷ c ∷ d ∷ [])
packed a b c d = omega arith

-- a packed pixel has 32 bits
word_below : (p : RgbaPixel) → IsPixel p → word p < 4294967296
word_below p i = omega (arith, i.r, i.g, i.b, i.a)

-- and these four bytes
pub word_bytes : (p : RgbaPixel) → IsPixel p → digits_l 256 4 (word p) ≡ p.r ∷ p.g ∷ p.b ∷ p.a ∷ []
word_bytes p i =
    let r : word p % 256 ≡ p.r = omega (arith, i.r, i.g, i.b, i.a) in
    let g : word p / 256 % 256 ≡ p.g = omega (arith, i.r, i.g, i.b, i.a) in
    let b : word p / 256 / 256 % 256 ≡ p.b = omega (arith, i.r, i.g, i.b, i.a) in
    let a : word p / 256 / 256 / 256 % 256 ≡ p.a = omega (arith, i.r, i.g, i.b, i.a) in
    λ j. r j ∷ g j ∷ b j ∷ a j ∷ []

-- the bytes of four packed pixels
pub bytes_of_words : (p q s t : RgbaPixel) → IsPixel p → IsPixel q → IsPixel s → IsPixel t
    → digits_l 256 16 (number_l 4294967296 (word p ∷ word q ∷ word s ∷ word t ∷ []))
    ≡ p.r ∷ p.g ∷ p.b ∷ p.a ∷ q.r ∷ q.g ∷ q.b ∷ q.a ∷ s.r ∷ s.g ∷ s.b ∷ s.a ∷ t.r ∷ t.g ∷ t.b ∷ t.a ∷ []
bytes_of_words p q s t ip iq is it =
    four_bytes (word p) (word q) (word s) (word t) (word_below p ip) (word_below q iq) (word_below s is) (word_below t it)
    ∙ (λ j. word_bytes p ip j ++ (word_bytes q iq j ++ (word_bytes s is j ++ word_bytes t it j)))

-- the bytes of one channel after those of another
abbrev order : List ℕ
order = 0 ∷ 4 ∷ 8 ∷ 12 ∷ 1 ∷ 5 ∷ 9 ∷ 13 ∷ 2 ∷ 6 ∷ 10 ∷ 14 ∷ 3 ∷ 7 ∷ 11 ∷ 15 ∷ []

-- the channels of four packed pixels
pub channels_of : (ps : List RgbaPixel) (w : List ℕ) → AreFourWords ps w
    → (let v = digits_l 256 16 (number_l 4294967296 w) in digits_l 4294967296 4 (number_l 256 (pick_l 0 (v ++ v) order))) ≡ channel_words ps
channels_of (p ∷ q ∷ s ∷ t ∷ []) w are =
    let i = are.are in
    let ip = i.0 in
    let iq = i.1.0 in
    let is = i.1.1.0 in
    let it = i.1.1.1.0 in
    (λ j. let v = digits_l 256 16 (number_l 4294967296 (are.words_are j)) in digits_l 4294967296 4 (number_l 256 (pick_l 0 (v ++ v) order)))
    ∙ ap (λ v. digits_l 4294967296 4 (number_l 256 (pick_l 0 (v ++ v) order))) (bytes_of_words p q s t ip iq is it)
    ∙ four_words (pixel p.r q.r s.r t.r) (pixel p.g q.g s.g t.g) (pixel p.b q.b s.b t.b) (pixel p.a q.a s.a t.a)
    (record { r = ip.r; g = iq.r; b = is.r; a = it.r }) (record { r = ip.g; g = iq.g; b = is.g; a = it.g })
    (record { r = ip.b; g = iq.b; b = is.b; a = it.b }) (record { r = ip.a; g = iq.a; b = is.a; a = it.a })
    ∙ (λ j. packed p.r q.r s.r t.r j ∷ packed p.g q.g s.g t.g j ∷ packed p.b q.b s.b t.b j ∷ packed p.a q.a s.a t.a j ∷ [])
channels_of ps w are = absurd (let f = are.four in omega arith)

-- the lower halves of two vectors, by turns
abbrev evens : List ℕ → List ℕ → List ℕ
evens p q = pick_l 0 (p ++ q) (0 ∷ 4 ∷ 1 ∷ 5 ∷ [])

-- the upper halves
abbrev odds : List ℕ → List ℕ → List ℕ
odds p q = pick_l 0 (p ++ q) (2 ∷ 6 ∷ 3 ∷ 7 ∷ [])

-- the bytes of the lower halves of two vectors
abbrev pub lows : List ℕ → List ℕ → List ℕ
lows p q = digits_l 256 16 (number_l 4294967296 (take 2 p ++ take 2 q))

-- the bytes of the upper halves
abbrev pub highs : List ℕ → List ℕ → List ℕ
highs p q = digits_l 256 16 (number_l 4294967296 (drop 2 p ++ drop 2 q))

-- they are those of lanes that are picked
pub halves_are : (v w : List ℕ) → length v ≡ 4 → length w ≡ 4
    → (digits_l 256 16 (number_l 4294967296 (pick_l 0 (v ++ w) (0 ∷ 1 ∷ 4 ∷ 5 ∷ []))) ≡ lows v w)
    × (digits_l 256 16 (number_l 4294967296 (pick_l 0 (v ++ w) (2 ∷ 3 ∷ 6 ∷ 7 ∷ []))) ≡ highs v w)
halves_are (a ∷ b ∷ c ∷ d ∷ []) (e ∷ f ∷ g ∷ h ∷ []) l m = (refl, refl)
halves_are v w l m = absurd (omega arith)

-- the planes from the channels of four times four pixels
abbrev pub planes_from : List ℕ → List ℕ → List ℕ → List ℕ → Planes
planes_from p q s t = record {
  r = lows (evens p q) (evens s t);
  g = highs (evens p q) (evens s t);
  b = lows (odds p q) (odds s t);
  a = highs (odds p q) (odds s t);
}

-- the bytes of a channel of sixteen pixels
sixteen_bytes : (f : RgbaPixel → ℕ) → ((p : RgbaPixel) → IsPixel p → f p < 256) → (ps qs rs ts : List RgbaPixel)
    → AreFourPixels ps → AreFourPixels qs → AreFourPixels rs → AreFourPixels ts
    → digits_l 256 16 (number_l 4294967296 (number_l 256 (map f ps) ∷ number_l 256 (map f qs) ∷ number_l 256 (map f rs) ∷ number_l 256 (map f ts) ∷ []))
    ≡ map f (ps ++ (qs ++ (rs ++ ts)))
sixteen_bytes f small (p0 ∷ p1 ∷ p2 ∷ p3 ∷ []) (q0 ∷ q1 ∷ q2 ∷ q3 ∷ []) (s0 ∷ s1 ∷ s2 ∷ s3 ∷ []) (t0 ∷ t1 ∷ t2 ∷ t3 ∷ []) fp fq fs ft =
    let ip = fp.are in
    let iq = fq.are in
    let is = fs.are in
    let it = ft.are in
    sym (λ j. digits_l 256 16 (number_l 4294967296 (packed (f p0) (f p1) (f p2) (f p3) j ∷ packed (f q0) (f q1) (f q2) (f q3) j
    ∷ packed (f s0) (f s1) (f s2) (f s3) j ∷ packed (f t0) (f t1) (f t2) (f t3) j ∷ [])))
    ∙ bytes_of_words (pixel (f p0) (f p1) (f p2) (f p3)) (pixel (f q0) (f q1) (f q2) (f q3)) (pixel (f s0) (f s1) (f s2) (f s3)) (pixel (f t0) (f t1) (f t2) (f t3))
    (record { r = small p0 ip.0; g = small p1 ip.1.0; b = small p2 ip.1.1.0; a = small p3 ip.1.1.1.0 })
    (record { r = small q0 iq.0; g = small q1 iq.1.0; b = small q2 iq.1.1.0; a = small q3 iq.1.1.1.0 })
    (record { r = small s0 is.0; g = small s1 is.1.0; b = small s2 is.1.1.0; a = small s3 is.1.1.1.0 })
    (record { r = small t0 it.0; g = small t1 it.1.0; b = small t2 it.1.1.0; a = small t3 it.1.1.1.0 })
sixteen_bytes f small ps qs rs ts fp fq fs ft = absurd (omega (arith, fp.four, fq.four, fs.four, ft.four))

-- the planes of sixteen pixels
pub sixteen_planes : (ps : List RgbaPixel) (p q s t : List ℕ) → AreSixteen ps → p ≡ channel_words (take 4 ps) → q ≡ channel_words (take 4 (drop 4 ps))
    → s ≡ channel_words (take 4 (drop 8 ps)) → t ≡ channel_words (take 4 (drop 12 ps)) → ArePlanes ps (planes_from p q s t)
sixteen_planes ps p q s t sixteen ep eq es et =
    let x = four_fours ps sixteen in
    let plane = λ (f : RgbaPixel → ℕ) (small : (p : RgbaPixel) → IsPixel p → f p < 256).
    sixteen_bytes f small (take 4 ps) (take 4 (drop 4 ps)) (take 4 (drop 8 ps)) (take 4 (drop 12 ps)) x.one x.two x.three x.four ∙ ap (map f) x.whole in
    record {
      r_is = (λ i. lows (evens (ep i) (eq i)) (evens (es i) (et i))) ∙ plane (λ (p : RgbaPixel). p.r) (λ p i. i.r);
      g_is = (λ i. highs (evens (ep i) (eq i)) (evens (es i) (et i))) ∙ plane (λ (p : RgbaPixel). p.g) (λ p i. i.g);
      b_is = (λ i. lows (odds (ep i) (eq i)) (odds (es i) (et i))) ∙ plane (λ (p : RgbaPixel). p.b) (λ p i. i.b);
      a_is = (λ i. highs (odds (ep i) (eq i)) (odds (es i) (et i))) ∙ plane (λ (p : RgbaPixel). p.a) (λ p i. i.a);
    }
