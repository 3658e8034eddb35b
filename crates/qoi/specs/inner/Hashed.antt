-- Pixels as single numbers that hold their index positions too.
use Rattle.std.specs.Prelude.{◌≡◌, ℕ, ◌+◌, ◌*◌, ◌/◌, ◌%◌, ◌^◌, ◌<◌, ◌≤◌, List, length, slice_index}
use Rattle.qoi.specs.Qoi.{RgbaPixel, Past, pixel, previous, positions, diff_tag, luma_tag, run_tag, rgb_tag, rgba_tag, hash, seen, after_diff, after_luma}

-- the pixel of four lanes of 16 bits, red in the lowest: each channel has the eight lower ones,
-- whatever stands in the others
abbrev pub pixel_of_lanes : ℕ → RgbaPixel
pixel_of_lanes s = pixel (s % 2 ^ 8) (s / 2 ^ 16 % 2 ^ 8) (s / 2 ^ 32 % 2 ^ 8) (s / 2 ^ 48 % 2 ^ 8)

-- each of the four lanes has a byte, and nothing else
abbrev pub IsPlain : ℕ → Type 0
IsPlain l = l ≡ l % 2 ^ 8 + l / 2 ^ 16 % 2 ^ 8 * 2 ^ 16 + l / 2 ^ 32 % 2 ^ 8 * 2 ^ 32 + l / 2 ^ 48 % 2 ^ 8 * 2 ^ 48

-- the eight highest bits of the number are four times the index position of its pixel
abbrev pub IsHashed : ℕ → Type 0
IsHashed s = s / 2 ^ 56 ≡ 4 * hash (pixel_of_lanes s)

-- what is added to such a number, so that red, green and blue grow by these: the index position
-- grows with them
abbrev pub step : ℕ → ℕ → ℕ → ℕ
step r g b = r + g * 2 ^ 16 + b * 2 ^ 32 + 4 * (3 * r + 5 * g + 7 * b) % 2 ^ 8 * 2 ^ 56

-- t is what a first byte b but an index position adds to the number of the last pixel: of a run,
-- RGB or RGBA nothing
pub record IsAdded (b t : ℕ) : Type 0 where
  pub diff : diff_tag ≤ b → b < luma_tag → t ≡ step (b / 16 % 4 + 254) (b / 4 % 4 + 254) (b % 4 + 254)
  pub luma : luma_tag ≤ b → b < run_tag → t ≡ step (b % 64 + 216) (b % 64 + 224) (b % 64 + 216)
  pub run : run_tag ≤ b → t ≡ 0

-- The first numbers are those of pixels, one for each index position, and each later one is what a
-- first byte adds.
pub record AreTerms (numbers : List ℕ) : Type 0 where
  pub places : (i : ℕ) → i < positions → IsHashed (slice_index numbers i)
  pub others : (i : ℕ) → positions ≤ i → i < length numbers → IsAdded i (slice_index numbers i)

-- The numbers hold, at each index position, the pixel that is seen there of these pixels, which
-- were put there one after the other.
abbrev pub HoldsSeen : List ℕ → Past → Type 0
HoldsSeen numbers past = (i : ℕ) → i < positions → pixel_of_lanes (slice_index numbers i) ≡ seen past i

-- the table holds what is seen of all of these pixels, and the last of them has this number
pub record HasSeen (table : List ℕ) (last : ℕ) (past : Past) : Type 0 where
  pub table_is : HoldsSeen table past
  pub last_is : pixel_of_lanes last ≡ previous past

-- p is the pixel after an index position, a difference, a luma or a run, of whose bytes b is the first
-- and e comes next, by the table and the last pixel
pub record IsAfterShort (b e : ℕ) (table : List ℕ) (last p : RgbaPixel) : Type 0 where
  pub place : b < diff_tag → (past : Past) → HoldsSeen table past → p ≡ seen past b
  pub diff : diff_tag ≤ b → b < luma_tag → p ≡ after_diff last b
  pub luma : luma_tag ≤ b → b < run_tag → p ≡ after_luma last b e
  pub run : run_tag ≤ b → p ≡ last

-- p is the pixel of the RGB or RGBA chunk that the bytes begin with, whose first byte is b
pub record IsAfterFull (b : ℕ) (bytes : List ℕ) (last p : RgbaPixel) : Type 0 where
  pub rgb : b ≡ rgb_tag → p ≡ pixel (slice_index bytes 1) (slice_index bytes 2) (slice_index bytes 3) last.a
  pub rgba : b ≡ rgba_tag → p ≡ pixel (slice_index bytes 1) (slice_index bytes 2) (slice_index bytes 3) (slice_index bytes 4)
