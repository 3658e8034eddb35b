-- How many pixels at the front of sixteen equal a given one, by their bytes.
use Rattle.std.proofs.Common.{◌≡◌, ◌≢◌, ℕ, zero, suc, ◌+◌, ◌-◌, ◌*◌, ◌/◌, ◌%◌, ◌^◌, ◌≤◌, ◌<◌, Bool, true, false, cond, eqb, eqb-true, List, [], ◌∷◌, ◌++◌, length, take, drop, replicate, refl, sym, ap, ◌∙◌, subst, arith}
use Rattle.std.specs.List.{common_prefix_len}
use Rattle.std.proofs.lemmas.Bool.{eqb-false}
use Rattle.std.proofs.lemmas.List.{drop-drop, drop_all, length-drop}
use lib.Count.{count_trailing_zeros}
use lib.Lanes.{zip2}
use Rattle.qoi.specs.Qoi.{RgbaPixel, pixel}
use Rattle.qoi.specs.Raw.{IsChannels, output, pixels_of_3, pixels_of_4, pixels_of}
use Rattle.qoi.specs.Runs.{IsCount}
use Rattle.qoi.proofs.format.WholePixels.{by_channels}
use Rattle.qoi.proofs.format.SameBits.{same_bits, parted, none_beside}
use Rattle.qoi.proofs.format.LaneRuns.{first_clear}
use Rattle.qoi.proofs.format.SamePixels.{same_pixel}

-- the bits of the nth sixteen bytes
abbrev pub part_bits : ℕ → List ℕ → List ℕ → ℕ
part_bits n xs ys = same_bits (take 16 (drop (16 * n) xs)) (take 16 (drop (16 * n) ys))

-- those of three parts together, and of the bytes after them
three_parts : (xs ys : List ℕ) → 48 ≤ length xs → 48 ≤ length ys
    → same_bits xs ys ≡ part_bits 0 xs ys + 2 ^ 16 * part_bits 1 xs ys + 2 ^ 32 * part_bits 2 xs ys + 2 ^ 48 * same_bits (drop 48 xs) (drop 48 ys)
three_parts xs ys l m =
    let a = parted 16 xs ys (omega arith) (omega arith) in
    let b = parted 16 (drop 16 xs) (drop 16 ys) (omega (arith, length-drop 16 xs)) (omega (arith, length-drop 16 ys)) in
    let c = parted 16 (drop 32 xs) (drop 32 ys) (omega (arith, length-drop 32 xs)) (omega (arith, length-drop 32 ys)) in
    let d : same_bits (drop 16 (drop 16 xs)) (drop 16 (drop 16 ys)) ≡ same_bits (drop 32 xs) (drop 32 ys) = (λ i. same_bits (drop-drop 16 16 xs i) (drop-drop 16 16 ys i)) in
    let e : same_bits (drop 16 (drop 32 xs)) (drop 16 (drop 32 ys)) ≡ same_bits (drop 48 xs) (drop 48 ys) = (λ i. same_bits (drop-drop 16 32 xs i) (drop-drop 16 32 ys i)) in
    omega (arith, a, b, c, d, e)

-- past the end of ys no bit is set
none_after : (n : ℕ) (xs ys : List ℕ) → length ys ≡ n → same_bits xs (drop n ys) ≡ 0
none_after n xs ys e = ap (same_bits xs) (drop_all n ys (omega arith)) ∙ none_beside xs

-- three channels
pub bits_of_3 : (xs ys : List ℕ) (a b c : ℕ) → length ys ≡ 48 → 48 ≤ length xs → a < 2 ^ 16 → b < 2 ^ 16 → c < 2 ^ 16
    → a ≡ part_bits 0 xs ys → b ≡ part_bits 1 xs ys → c ≡ part_bits 2 xs ys → a + b * 2 ^ 16 % 2 ^ 64 + c * 2 ^ 32 % 2 ^ 64 ≡ same_bits xs ys
bits_of_3 xs ys a b c size long x y z e f g =
    let parts = three_parts xs ys long (omega arith) in
    let over : same_bits (drop 48 xs) (drop 48 ys) ≡ 0 = none_after 48 (drop 48 xs) ys size in
    omega arith

-- four
pub bits_of_4 : (xs ys : List ℕ) (a b c d : ℕ) → length ys ≡ 64 → 64 ≤ length xs → a < 2 ^ 16 → b < 2 ^ 16 → c < 2 ^ 16 → d < 2 ^ 16
    → a ≡ part_bits 0 xs ys → b ≡ part_bits 1 xs ys → c ≡ part_bits 2 xs ys → d ≡ part_bits 3 xs ys
    → a + b * 2 ^ 16 % 2 ^ 64 + c * 2 ^ 32 % 2 ^ 64 + d * 2 ^ 48 % 2 ^ 64 ≡ same_bits xs ys
bits_of_4 xs ys a b c d size long x y z w e f g h =
    let parts = three_parts xs ys (omega arith) (omega arith) in
    let last = parted 16 (drop 48 xs) (drop 48 ys) (omega (arith, length-drop 48 xs)) (omega (arith, length-drop 48 ys)) in
    let over = none_after 16 (drop 16 (drop 48 xs)) (drop 48 ys) (omega (arith, length-drop 48 ys)) in
    omega arith

-- the first n of m pixels are p, then comes another, or `rest` if n is m
pub record IsFront (p : RgbaPixel) (pixels rest : List RgbaPixel) (m n : ℕ) : Type 0 where
  pub within : n ≤ m
  pub all : n ≡ m → pixels ≡ replicate m p ++ rest
  pub counted : n < m → IsCount p pixels n

-- of no pixels none is
no_pixels : (p : RgbaPixel) (pixels : List RgbaPixel) → IsFront p pixels pixels 0 0
no_pixels p pixels = record { within = omega arith; all = λ e. refl; counted = λ l. absurd (omega arith) }

-- one more is
one_more : (p q : RgbaPixel) (pixels rest : List RgbaPixel) (m n k : ℕ) → k ≡ suc n → q ≡ p → IsFront p pixels rest m n → IsFront p (q ∷ pixels) rest (suc m) k
one_more p q pixels rest m n k is e w = rw (is, e) (record {
  within = omega (arith, w.within);
  all = λ h. ap (λ x. p ∷ x) (w.all (omega arith));
  counted = λ l. (let k = w.counted (omega arith) in record { same = ap (λ x. p ∷ x) k.same; other = k.other });
})

-- the first isn't
not_first : (p q : RgbaPixel) (pixels rest : List RgbaPixel) (m : ℕ) → q ≢ p → IsFront p (q ∷ pixels) rest (suc m) 0
not_first p q pixels rest m ne = record {
  within = omega arith;
  all = λ e. absurd (omega arith);
  counted = λ l. record { same = refl; other = λ e. ne cc };
}

-- an empty list shares no bytes
none_shared : (xs : List ℕ) → common_prefix_len eqb xs [] ≡ 0
none_shared [] = refl
none_shared (x ∷ xs) = refl

-- how many pixels at the front are p: the shared bytes divided by three, rounded down
front_3 : (m : ℕ) (bytes : List ℕ) (p : RgbaPixel) → p.a ≡ 255 → 3 * m ≤ length bytes
    → IsFront p (pixels_of_3 bytes) (pixels_of_3 (drop (3 * m) bytes)) m (common_prefix_len eqb bytes (output 3 3 (replicate m p)) / 3)
front_3 zero bytes p o l = rw (none_shared bytes) (no_pixels p (pixels_of_3 bytes))
front_3 (suc m) (r ∷ g ∷ b ∷ bytes) p o l =
    let size : 3 * suc m ≡ suc (suc (suc (3 * m))) = omega arith in
    rw size (go (eqb r p.r) (eqb g p.g) (eqb b p.b) refl refl refl
    (common_prefix_len eqb bytes (output 3 3 (replicate m p))) (front_3 m bytes p o (omega arith)))
  where
    go : (x y z : Bool) → eqb r p.r ≡ x → eqb g p.g ≡ y → eqb b p.b ≡ z → (n : ℕ) → IsFront p (pixels_of_3 bytes) (pixels_of_3 (drop (3 * m) bytes)) m (n / 3)
        → IsFront p (pixel r g b 255 ∷ pixels_of_3 bytes) (pixels_of_3 (drop (3 * m) bytes)) (suc m) (cond x (1 + cond y (1 + cond z (1 + n) 0) 0) 0 / 3)
    go true true true e f h n w =
        one_more p _ (pixels_of_3 bytes) _ m (n / 3) ((1 + (1 + (1 + n))) / 3) (omega arith) (same_pixel _ p (eqb-true r p.r e) (eqb-true g p.g f) (eqb-true b p.b h) (sym o)) w
    go true true false e f h n w = not_first p _ (pixels_of_3 bytes) _ m (λ s. eqb-false b p.b h (ap (λ q. q.b) s))
    go true false z e f h n w = not_first p _ (pixels_of_3 bytes) _ m (λ s. eqb-false g p.g f (ap (λ q. q.g) s))
    go false y z e f h n w = not_first p _ (pixels_of_3 bytes) _ m (λ s. eqb-false r p.r e (ap (λ q. q.r) s))
front_3 (suc m) _ p o l = absurd (omega arith)

-- four
front_4 : (m : ℕ) (bytes : List ℕ) (p : RgbaPixel) → 4 * m ≤ length bytes
    → IsFront p (pixels_of_4 bytes) (pixels_of_4 (drop (4 * m) bytes)) m (common_prefix_len eqb bytes (output 4 4 (replicate m p)) / 4)
front_4 zero bytes p l = rw (none_shared bytes) (no_pixels p (pixels_of_4 bytes))
front_4 (suc m) (r ∷ g ∷ b ∷ a ∷ bytes) p l =
    let size : 4 * suc m ≡ suc (suc (suc (suc (4 * m)))) = omega arith in
    rw size (go (eqb r p.r) (eqb g p.g) (eqb b p.b) (eqb a p.a) refl refl refl refl
    (common_prefix_len eqb bytes (output 4 4 (replicate m p))) (front_4 m bytes p (omega arith)))
  where
    go : (x y z t : Bool) → eqb r p.r ≡ x → eqb g p.g ≡ y → eqb b p.b ≡ z → eqb a p.a ≡ t → (n : ℕ)
        → IsFront p (pixels_of_4 bytes) (pixels_of_4 (drop (4 * m) bytes)) m (n / 4)
        → IsFront p (pixel r g b a ∷ pixels_of_4 bytes) (pixels_of_4 (drop (4 * m) bytes)) (suc m)
        (cond x (1 + cond y (1 + cond z (1 + cond t (1 + n) 0) 0) 0) 0 / 4)
    go true true true true e f h k n w =
        one_more p _ (pixels_of_4 bytes) _ m (n / 4) ((1 + (1 + (1 + (1 + n)))) / 4) (omega arith)
        (same_pixel _ p (eqb-true r p.r e) (eqb-true g p.g f) (eqb-true b p.b h) (eqb-true a p.a k)) w
    go true true true false e f h k n w = not_first p _ (pixels_of_4 bytes) _ m (λ s. eqb-false a p.a k (ap (λ q. q.a) s))
    go true true false t e f h k n w = not_first p _ (pixels_of_4 bytes) _ m (λ s. eqb-false b p.b h (ap (λ q. q.b) s))
    go true false z t e f h k n w = not_first p _ (pixels_of_4 bytes) _ m (λ s. eqb-false g p.g f (ap (λ q. q.g) s))
    go false y z t e f h k n w = not_first p _ (pixels_of_4 bytes) _ m (λ s. eqb-false r p.r e (ap (λ q. q.r) s))
front_4 (suc m) _ p l = absurd (omega arith)

-- no more bits than bytes of the second list
few_bits : (xs ys : List ℕ) → length (zip2 eqb xs ys) ≤ length ys
few_bits (x ∷ xs) (y ∷ ys) = omega (arith, few_bits xs ys)
few_bits xs ys = omega arith

-- of sixteen pixels as many are p as the bits say
pub front_of : (n : ℕ) (bytes : List ℕ) (p : RgbaPixel) (bits : ℕ) → IsChannels n → (n ≡ 3 → p.a ≡ 255) → n * 16 ≤ length bytes
    → bits ≡ same_bits bytes (output n n (replicate 16 p))
    → IsFront p (pixels_of n bytes) (pixels_of n (drop (n * 16) bytes)) 16 (count_trailing_zeros 64 (18446744073709551615 - bits) / n)
front_of n bytes p bits is = by_channels (λ k. (k ≡ 3 → p.a ≡ 255) → k * 16 ≤ length bytes → bits ≡ same_bits bytes (output k k (replicate 16 p))
    → IsFront p (pixels_of k bytes) (pixels_of k (drop (k * 16) bytes)) 16 (count_trailing_zeros 64 (18446744073709551615 - bits) / k)) is
    (λ opaque long e. subst (λ c. IsFront p (pixels_of_3 bytes) (pixels_of_3 (drop 48 bytes)) 16 (c / 3)) (sym (clear (output 3 3 (replicate 16 p)) (omega arith) e))
    (front_3 16 bytes p (opaque refl) long))
    (λ opaque long e. subst (λ c. IsFront p (pixels_of_4 bytes) (pixels_of_4 (drop 64 bytes)) 16 (c / 4)) (sym (clear (output 4 4 (replicate 16 p)) (omega arith) e))
    (front_4 16 bytes p long))
  where
    clear : (ys : List ℕ) → length ys ≤ 64 → bits ≡ same_bits bytes ys → count_trailing_zeros 64 (18446744073709551615 - bits) ≡ common_prefix_len eqb bytes ys
    clear ys few e = first_clear 64 bytes ys _ (omega (arith, few_bits bytes ys)) (ap (λ b. 18446744073709551615 - b) e)

-- if all bits are set, all sixteen are
pub whole_block : (n : ℕ) (bytes : List ℕ) (p : RgbaPixel) → IsChannels n → (n ≡ 3 → p.a ≡ 255) → n * 16 ≤ length bytes
    → same_bits bytes (output n n (replicate 16 p)) ≡ 2 ^ (n * 16) - 1
    → pixels_of n bytes ≡ replicate 16 p ++ pixels_of n (drop (n * 16) bytes)
unfolding count_trailing_zeros
whole_block n bytes p is opaque long e =
    let w = front_of n bytes p (2 ^ (n * 16) - 1) is opaque long (sym e) in
    w.all (by_channels (λ k. count_trailing_zeros 64 (18446744073709551615 - (2 ^ (k * 16) - 1)) / k ≡ 16) is refl refl)
