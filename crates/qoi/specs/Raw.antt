-- Raw bytes and pixels, both ways: what a decoder gives and what an encoder is given.
use Rattle.std.specs.Prelude.{ℕ, ◌*◌, ◌-◌, ◌^◌, ◌≤◌, min, List, [], ◌∷◌, length, ◌⊎◌, ◌≡◌, ◌==◌, if◌then◌else◌}
use Rattle.std.specs.List.{flat_map, AllByRecursion}
use Rattle.std.proofs.Common.{inl, inr, ap, arith}
use native.Mathlib.Nat.{ℕ_set}
use Rattle.qoi.specs.Qoi.{Header, RgbaPixel, pixel, channels_number, pixel_count, run_max}

-- a number of channels that the format has
abbrev pub IsChannels : ℕ → Type 0
IsChannels n = (n ≡ 3) ⊎ (n ≡ 4)

-- any two proofs of it are equal
pub IsChannels-prop : (n : ℕ) → IsProp (IsChannels n)
IsChannels-prop n (inl a) (inl b) = ap inl (ℕ_set n 3 a b)
IsChannels-prop n (inl a) (inr b) = absurd (omega arith)
IsChannels-prop n (inr a) (inl b) = absurd (omega arith)
IsChannels-prop n (inr a) (inr b) = ap inr (ℕ_set n 4 a b)

-- the channels of a file and those of an output are both 3 or 4
abbrev pub AreChannels : ℕ → ℕ → Type 0
AreChannels file_channels channels = IsChannels file_channels × IsChannels channels

-- A pixel in this many channels, of a file with `file_channels` channels: red, green, blue and, if
-- there are four, alpha, which is 255 if the file has three.
abbrev pub pixel_bytes : ℕ → ℕ → RgbaPixel → List ℕ
pixel_bytes file_channels channels p =
    if channels == 3 then p.r ∷ p.g ∷ p.b ∷ []
    else p.r ∷ p.g ∷ p.b ∷ (if file_channels == 4 then p.a else 255) ∷ []

-- the pixels' bytes, one after the other
abbrev pub output : ℕ → ℕ → List RgbaPixel → List ℕ
output file_channels channels pixels = flat_map (pixel_bytes file_channels channels) pixels

-- the most raw bytes for which a byte of a file stands: those of a whole run, in four channels
abbrev pub raw_per_byte : ℕ
raw_per_byte = 4 * run_max

-- the bytes without each fourth
abbrev pub without_fourth : List ℕ → List ℕ
without_fourth (r ∷ g ∷ b ∷ a ∷ bytes) = r ∷ g ∷ b ∷ without_fourth bytes
without_fourth bytes = bytes

-- the pixels of three bytes each, which are opaque; bytes past the last whole pixel give none
abbrev pub pixels_of_3 : List ℕ → List RgbaPixel
pixels_of_3 (r ∷ g ∷ b ∷ rest) = pixel r g b 255 ∷ pixels_of_3 rest
pixels_of_3 _ = []

-- the pixels of four bytes each; bytes past the last whole pixel give none
abbrev pub pixels_of_4 : List ℕ → List RgbaPixel
pixels_of_4 (r ∷ g ∷ b ∷ a ∷ rest) = pixel r g b a ∷ pixels_of_4 rest
pixels_of_4 _ = []

-- the pixels of raw bytes, three or four bytes a pixel
abbrev pub pixels_of : ℕ → List ℕ → List RgbaPixel
pixels_of channels bytes = if channels == 3 then pixels_of_3 bytes else pixels_of_4 bytes

-- how many bytes an image has in this many channels
abbrev pub byte_count : Header → ℕ → ℕ
byte_count h channels = pixel_count h * channels

-- the same in the file's own channels
abbrev pub image_byte_count : Header → ℕ
image_byte_count h = byte_count h (channels_number h.channels)

-- there are n bytes, and at least three
abbrev pub HasImageLength : ℕ → List ℕ → Type 0
HasImageLength n bytes = (length bytes ≡ n) × (3 ≤ length bytes)

-- `image_byte_count`, or the greatest usize if that is less; for a valid header it never is
abbrev pub capped_byte_count : Header → ℕ
capped_byte_count h = min (image_byte_count h) (2 ^ 64 - 1)

-- every pixel is opaque
abbrev pub AreOpaque : List RgbaPixel → Type 0
AreOpaque pixels = AllByRecursion (λ p. p.a ≡ 255) pixels

-- an image has four channels, or three and is opaque throughout
abbrev pub HasChannels : List RgbaPixel → ℕ → Type 0
HasChannels image channels = (channels ≡ 4) ⊎ ((channels ≡ 3) × AreOpaque image)
