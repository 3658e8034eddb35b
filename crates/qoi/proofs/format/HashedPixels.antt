-- Pixels as numbers that hold their index positions too.
use Rattle.std.proofs.Common.{◌≡◌, ℕ, ◌+◌, ◌-◌, ◌*◌, ◌/◌, ◌%◌, ◌^◌, ◌<◌, ◌≤◌, ◌⊎◌, inl, inr, List, arith, refl, sym, subst, ap, ◌∙◌}
use Rattle.std.specs.Int.Bits.{bit_and, and_zero_r}
use Rattle.std.proofs.lemmas.Bool.{cases_lt}
use Rattle.std.proofs.lemmas.Nat.{and_block, and_mask}
use Rattle.qoi.specs.Qoi.{RgbaPixel, Past, pixel, blank, hash, moved, seen, after_diff, after_luma}
use Rattle.qoi.specs.inner.Hashed.{pixel_of_lanes, IsHashed, IsAdded, IsAfterShort, HoldsSeen, step}
use Rattle.qoi.specs.declared.decode.deltas.TheConstants.{KEEP}
use Rattle.qoi.proofs.format.SamePixels.{same_pixel}

-- transparent black is zero, and so is its index position
pub blank_is : (pixel_of_lanes 0 ≡ blank) × IsHashed 0
unfolding blank hash
blank_is = (refl, refl)

-- the bits of the mask, sixteen by sixteen
mask_blocks : (a b g r : ℕ) → b < 2 ^ 16 → g < 2 ^ 16 → r < 2 ^ 16 → bit_and (((a * 2 ^ 16 + b) * 2 ^ 16 + g) * 2 ^ 16 + r) KEEP
    ≡ ((a % 2 ^ 16 * 2 ^ 16 + b % 2 ^ 8) * 2 ^ 16 + g % 2 ^ 8) * 2 ^ 16 + r % 2 ^ 8
mask_blocks a b g r lb lg lr =
    and_block 16 ((a * 2 ^ 16 + b) * 2 ^ 16 + g) 0xffff00ff00ff r 0xff lr (omega arith)
    ∙ ap (λ z. z * 2 ^ 16 + bit_and r 0xff) (and_block 16 (a * 2 ^ 16 + b) 0xffff00ff g 0xff lg (omega arith))
    ∙ ap (λ z. (z * 2 ^ 16 + bit_and g 0xff) * 2 ^ 16 + bit_and r 0xff) (and_block 16 a 0xffff b 0xff lb (omega arith))
    ∙ omega (arith, and_mask a 16, and_mask b 8, and_mask g 8, and_mask r 8)

-- the mask takes away what stands above red, green and blue
masked : (s : ℕ) → s < 2 ^ 64 → bit_and s KEEP ≡ s % 2 ^ 8 + s / 2 ^ 16 % 2 ^ 8 * 2 ^ 16 + s / 2 ^ 32 % 2 ^ 8 * 2 ^ 32 + s / 2 ^ 48 * 2 ^ 48
masked s l =
    ap (λ z. bit_and z KEEP) split
    ∙ mask_blocks (s / 2 ^ 48) (s / 2 ^ 32 % 2 ^ 16) (s / 2 ^ 16 % 2 ^ 16) (s % 2 ^ 16) (omega arith) (omega arith) (omega arith)
    ∙ omega (arith, l)
  where
    split : s ≡ ((s / 2 ^ 48 * 2 ^ 16 + s / 2 ^ 32 % 2 ^ 16) * 2 ^ 16 + s / 2 ^ 16 % 2 ^ 16) * 2 ^ 16 + s % 2 ^ 16
    split = omega arith

-- the other mask leaves alpha alone
alpha_alone : (s : ℕ) → bit_and s 0xff000000000000 ≡ s / 2 ^ 48 % 2 ^ 8 * 2 ^ 48
alpha_alone s =
    ap (λ z. bit_and z 0xff000000000000) split
    ∙ and_block 48 (s / 2 ^ 48) 0xff (s % 2 ^ 48) 0 (omega arith) (omega arith)
    ∙ omega (arith, and_mask (s / 2 ^ 48) 8, and_zero_r (s % 2 ^ 48))
  where
    split : s ≡ s / 2 ^ 48 * 2 ^ 48 + s % 2 ^ 48
    split = omega arith

-- the number is that of this pixel
pub record IsNumberOf (t : ℕ) (p : RgbaPixel) : Type 0 where
  pub pixel_is : pixel_of_lanes t ≡ p
  pub is_hashed : IsHashed t

-- the pixel of four lanes, but with this alpha
abbrev with_a : ℕ → ℕ → RgbaPixel
with_a four a = pixel (four % 2 ^ 8) (four / 2 ^ 16 % 2 ^ 8) (four / 2 ^ 32 % 2 ^ 8) a

-- alpha's share of the index position
alpha_share : (r g b a place : ℕ) → place ≡ 4 * ((3 * r + 5 * g + 7 * b + 11 * 0) % 64) → (place + 44 * a) % 2 ^ 8 ≡ 4 * ((3 * r + 5 * g + 7 * b + 11 * a) % 64)
alpha_share r g b a place e = omega (arith, e)

-- the product with alpha alone is alpha and its share, which are added to a number without alpha
product_is : (t w a : ℕ) → w / 2 ^ 48 % 2 ^ 8 ≡ 0 → t ≡ (a * 2 ^ 48 * 0x2c01 % 2 ^ 64 + w) % 2 ^ 64 → t ≡ (w % 2 ^ 48 + a * 2 ^ 48 + (w / 2 ^ 56 + 44 * a) * 2 ^ 56) % 2 ^ 64
product_is t w a none e = omega (arith, none, e)

-- the number of three lanes, with alpha
with_alpha : (t w a : ℕ) → a < 2 ^ 8 → IsHashed w → w / 2 ^ 48 % 2 ^ 8 ≡ 0 → t ≡ (a * 2 ^ 48 * 0x2c01 % 2 ^ 64 + w) % 2 ^ 64 → IsNumberOf t (with_a w a)
unfolding hash
with_alpha t w a la hashed none e =
    let sum = product_is t w a none e in
    let red : t % 2 ^ 8 ≡ w % 2 ^ 8 = omega (arith, sum) in
    let green : t / 2 ^ 16 % 2 ^ 8 ≡ w / 2 ^ 16 % 2 ^ 8 = omega (arith, sum) in
    let blue : t / 2 ^ 32 % 2 ^ 8 ≡ w / 2 ^ 32 % 2 ^ 8 = omega (arith, sum) in
    let alpha : t / 2 ^ 48 % 2 ^ 8 ≡ a = omega (arith, sum, la) in
    let high : t / 2 ^ 56 ≡ (w / 2 ^ 56 + 44 * a) % 2 ^ 8 = omega (arith, sum, la) in
    let px : pixel_of_lanes t ≡ with_a w a = same_pixel _ _ red green blue alpha in
    let place : w / 2 ^ 56 ≡ 4 * ((3 * (w % 2 ^ 8) + 5 * (w / 2 ^ 16 % 2 ^ 8) + 7 * (w / 2 ^ 32 % 2 ^ 8) + 11 * 0) % 64) = hashed ∙ ap (λ z. 4 * ((3 * (w % 2 ^ 8) + 5 * (w / 2 ^ 16 % 2 ^ 8) + 7 * (w / 2 ^ 32 % 2 ^ 8) + 11 * z) % 64)) none in
    record {
      pixel_is = px;
      is_hashed = high ∙ alpha_share (w % 2 ^ 8) (w / 2 ^ 16 % 2 ^ 8) (w / 2 ^ 32 % 2 ^ 8) a (w / 2 ^ 56) place ∙ ap (λ p. 4 * hash p) (sym px);
    }

-- the number after an RGB chunk: three of the four lanes that are read, and the last pixel's alpha
pub after_rgb : (s keep four read w : ℕ) → keep ≡ 0xff000000000000 → read ≡ 2 ^ 48 - 1 → IsHashed w → pixel_of_lanes w ≡ pixel_of_lanes (bit_and four read)
    → IsNumberOf ((bit_and s keep * 0x2c01 % 2 ^ 64 + w) % 2 ^ 64) (with_a four (s / 2 ^ 48 % 2 ^ 8))
after_rgb s keep four read w is_keep is_read hashed same =
    let kept : bit_and s keep ≡ s / 2 ^ 48 % 2 ^ 8 * 2 ^ 48 = ap (λ m. bit_and s m) is_keep ∙ alpha_alone s in
    let lanes : bit_and four read ≡ four % 2 ^ 48 = ap (λ m. bit_and four m) is_read ∙ and_mask four 48 in
    let red : w % 2 ^ 8 ≡ four % 2 ^ 8 = omega (arith, ap (λ p. p.r) same, lanes) in
    let green : w / 2 ^ 16 % 2 ^ 8 ≡ four / 2 ^ 16 % 2 ^ 8 = omega (arith, ap (λ p. p.g) same, lanes) in
    let blue : w / 2 ^ 32 % 2 ^ 8 ≡ four / 2 ^ 32 % 2 ^ 8 = omega (arith, ap (λ p. p.b) same, lanes) in
    let none : w / 2 ^ 48 % 2 ^ 8 ≡ 0 = omega (arith, ap (λ p. p.a) same, lanes) in
    let with = with_alpha ((bit_and s keep * 0x2c01 % 2 ^ 64 + w) % 2 ^ 64) w (s / 2 ^ 48 % 2 ^ 8) (omega arith) hashed none (ap (λ k. (k * 0x2c01 % 2 ^ 64 + w) % 2 ^ 64) kept) in
    record {
      pixel_is = with.pixel_is ∙ same_pixel _ _ red green blue refl;
      is_hashed = with.is_hashed;
    }

-- the number after an RGBA chunk: that of the four lanes
pub after_rgba : (s keep w : ℕ) → keep ≡ 0 → IsHashed w → (bit_and s keep * 0x2c01 % 2 ^ 64 + w) % 2 ^ 64 ≡ w
unfolding hash
after_rgba s keep w is_keep hashed =
    let kept : bit_and s keep ≡ 0 = ap (λ m. bit_and s m) is_keep ∙ and_zero_r s in
    omega (arith, kept, hashed)

-- the index position of a moved pixel
hash_moved : (p : RgbaPixel) (r g b k : ℕ) → k % 64 ≡ (3 * r + 5 * g + 7 * b) % 64 → hash (moved p r g b) ≡ (hash p + k) % 64
unfolding hash
hash_moved p r g b k e = omega arith

-- the highest bits of a sum
high_sum : (t u i k : ℕ) → u < 2 ^ 56 → t ≡ (u + (4 * i + 4 * k) * 2 ^ 56) % 2 ^ 64 → t / 2 ^ 56 ≡ 4 * ((i + k) % 64)
high_sum t u i k lu e = omega (arith, lu, e)

-- the lanes of a sum
red_lane : (t x high : ℕ) → t ≡ (x + high * 2 ^ 16) % 2 ^ 64 → t % 2 ^ 8 ≡ x % 2 ^ 8
red_lane t x high e = omega arith

green_lane : (t u x high : ℕ) → u < 2 ^ 16 → t ≡ (u + x * 2 ^ 16 + high * 2 ^ 32) % 2 ^ 64 → t / 2 ^ 16 % 2 ^ 8 ≡ x % 2 ^ 8
green_lane t u x high lu e = omega arith

blue_lane : (t u x high : ℕ) → u < 2 ^ 32 → t ≡ (u + x * 2 ^ 32 + high * 2 ^ 48) % 2 ^ 64 → t / 2 ^ 32 % 2 ^ 8 ≡ x % 2 ^ 8
blue_lane t u x high lu e = omega arith

alpha_lane : (t u a high : ℕ) → u < 2 ^ 48 → a < 2 ^ 8 → t ≡ (u + a * 2 ^ 48 + high * 2 ^ 56) % 2 ^ 64 → t / 2 ^ 48 % 2 ^ 8 ≡ a
alpha_lane t u a high lu la e = omega arith

-- numbers that are added in their lanes move the pixel, and with it the index position
pub sum_is : (s t r g b k : ℕ) → s < 2 ^ 64 → IsHashed s → r ≤ 1000 → g ≤ 1000 → b ≤ 1000 → k % 64 ≡ (3 * r + 5 * g + 7 * b) % 64
    → t ≡ (bit_and s KEEP + r + g * 2 ^ 16 + b * 2 ^ 32 + 4 * k * 2 ^ 56) % 2 ^ 64 → IsNumberOf t (moved (pixel_of_lanes s) r g b)
sum_is s t r g b k l h lr lg lb position e =
    let red = s % 2 ^ 8 + r in
    let green = s / 2 ^ 16 % 2 ^ 8 + g in
    let blue = s / 2 ^ 32 % 2 ^ 8 + b in
    let alpha = s / 2 ^ 48 % 2 ^ 8 in
    let place = s / 2 ^ 56 + 4 * k in
    let sum : t ≡ (red + green * 2 ^ 16 + blue * 2 ^ 32 + alpha * 2 ^ 48 + place * 2 ^ 56) % 2 ^ 64 = e ∙ ap (λ z. z % 2 ^ 64) (by_parts s r g b k l) in
    let r_is = red_lane t red (green + blue * 2 ^ 16 + alpha * 2 ^ 32 + place * 2 ^ 40) (sum ∙ ap (λ z. z % 2 ^ 64) (omega arith)) in
    let g_is = green_lane t red green (blue + alpha * 2 ^ 16 + place * 2 ^ 24) (omega (arith, lr)) (sum ∙ ap (λ z. z % 2 ^ 64) (omega arith)) in
    let b_is = blue_lane t (red + green * 2 ^ 16) blue (alpha + place * 2 ^ 8) (omega (arith, lr, lg)) (sum ∙ ap (λ z. z % 2 ^ 64) (omega arith)) in
    let a_is = alpha_lane t (red + green * 2 ^ 16 + blue * 2 ^ 32) alpha place (omega (arith, lr, lg, lb)) (omega arith) sum in
    let px : pixel_of_lanes t ≡ moved (pixel_of_lanes s) r g b = same_pixel _ _ r_is g_is b_is a_is in
    let high : t / 2 ^ 56 ≡ 4 * ((hash (pixel_of_lanes s) + k) % 64) =
    high_sum t (red + green * 2 ^ 16 + blue * 2 ^ 32 + alpha * 2 ^ 48) (hash (pixel_of_lanes s)) k (omega (arith, lr, lg, lb)) (sum ∙ ap (λ x. (red + green * 2 ^ 16 + blue * 2 ^ 32 + alpha * 2 ^ 48 + (x + 4 * k) * 2 ^ 56) % 2 ^ 64) h) in
    record {
      pixel_is = px;
      is_hashed = high ∙ ap (λ i. 4 * i) (sym (ap hash px ∙ hash_moved (pixel_of_lanes s) r g b k position));
    }
  where
    by_parts : (s r g b k : ℕ) → s < 2 ^ 64 → bit_and s KEEP + r + g * 2 ^ 16 + b * 2 ^ 32 + 4 * k * 2 ^ 56
        ≡ s % 2 ^ 8 + r + (s / 2 ^ 16 % 2 ^ 8 + g) * 2 ^ 16 + (s / 2 ^ 32 % 2 ^ 8 + b) * 2 ^ 32 + s / 2 ^ 48 % 2 ^ 8 * 2 ^ 48 + (s / 2 ^ 56 + 4 * k) * 2 ^ 56
    by_parts s r g b k l = omega (arith, l, masked s l)

-- the terms of the sum for a short chunk, by its first two bytes, the table and the last pixel's number:
-- what is kept of that, what the second byte adds, and what the table says
pub record IsShortSum (b e : ℕ) (table : List ℕ) (s own more entry : ℕ) : Type 0 where
  pub none : b < 64 → own ≡ 0
  pub kept : 64 ≤ b → own ≡ bit_and s KEEP
  pub no_more : (b < 128) ⊎ (192 ≤ b) → more ≡ 0
  pub luma : 128 ≤ b → b < 192 → (e < 256) × (more ≡ step (e / 16) 0 (e % 16))
  pub hashed : b < 64 → IsHashed entry
  pub place : b < 64 → (past : Past) → HoldsSeen table past → pixel_of_lanes entry ≡ seen past b
  pub added : 64 ≤ b → IsAdded b entry

-- the sum has the chunk's pixel, and its index position
pub short_sum : {b e : ℕ} {table : List ℕ} {s own more entry t : ℕ} → IsShortSum b e table s own more entry → s < 2 ^ 64 → IsHashed s → entry < 2 ^ 64
    → t ≡ (own + more + entry) % 2 ^ 64 → IsAfterShort b e table (pixel_of_lanes s) (pixel_of_lanes t) × IsHashed t
unfolding after_diff after_luma
short_sum {b} {e} {table} {s} {own} {more} {entry} {t} p l hashed fits sum = (
  record {
    place = λ low past h. ap pixel_of_lanes (place low) ∙ p.place low past h;
    diff = λ low high. (diff low high).pixel_is;
    luma = λ low high. (luma low high).pixel_is;
    run = λ low. (run low).pixel_is ∙ same_pixel _ _ (omega arith) (omega arith) (omega arith) (omega arith);
  },
  elim (cases_lt b 64) [
    | inl low ↦ subst IsHashed (sym (place low)) (p.hashed low)
    | inr some ↦ elim (cases_lt b 128) [
      | inl low ↦ (diff some low).is_hashed
      | inr high ↦ elim (cases_lt b 192) [ inl low ↦ (luma high low).is_hashed | inr more ↦ (run more).is_hashed ]
    ]
  ],
)
  where
    place : b < 64 → t ≡ entry
    place low = omega (arith, p.none low, p.no_more (inl (omega (arith, low))), fits, sum)

    moves : (x y z k : ℕ) → 64 ≤ b → x ≤ 1000 → y ≤ 1000 → z ≤ 1000 → k % 64 ≡ (3 * x + 5 * y + 7 * z) % 64
        → entry + more ≡ x + y * 2 ^ 16 + z * 2 ^ 32 + 4 * k * 2 ^ 56 → IsNumberOf t (moved (pixel_of_lanes s) x y z)
    moves x y z k low lx ly lz position is = sum_is s t x y z k l hashed lx ly lz position (omega (arith, p.kept low, is, sum))

    diff : 64 ≤ b → b < 128 → IsNumberOf t (moved (pixel_of_lanes s) (b / 16 % 4 + 254) (b / 4 % 4 + 254) (b % 4 + 254))
    diff low high =
        moves _ _ _ ((3 * (b / 16 % 4 + 254) + 5 * (b / 4 % 4 + 254) + 7 * (b % 4 + 254)) % 64) low
        (omega arith) (omega arith) (omega arith) (omega arith) (omega (arith, (p.added low).diff low high, p.no_more (inl high)))

    luma : 128 ≤ b → b < 192 → IsNumberOf t (moved (pixel_of_lanes s) (b % 64 + e / 16 + 216) (b % 64 + 224) (b % 64 + e % 16 + 216))
    luma low high =
        let some : 64 ≤ b = omega (arith, low) in
        moves _ _ _ ((3 * (b % 64 + 216) + 5 * (b % 64 + 224) + 7 * (b % 64 + 216)) % 64 + (3 * (e / 16) + 5 * 0 + 7 * (e % 16)) % 64) some
        (omega (arith, p.luma low high)) (omega arith) (omega arith) (omega arith) (omega (arith, (p.added some).luma low high, p.luma low high))

    run : 192 ≤ b → IsNumberOf t (moved (pixel_of_lanes s) 0 0 0)
    run low =
        let some : 64 ≤ b = omega (arith, low) in
        moves 0 0 0 0 some (omega arith) (omega arith) (omega arith) (omega arith) (omega (arith, (p.added some).run low, p.no_more (inr low)))
