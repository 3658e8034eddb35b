-- Bytes that are too short for the chunk that their first byte begins.
use Rattle.std.proofs.Common.{◌≡◌, ℕ, zero, suc, ◌<◌, ◌≤◌, List, [], ◌∷◌, length, get_or, arith, refl}
use Rattle.qoi.specs.Qoi.{Place, Luma, Rgb, Rgba, AreBytes}
use Rattle.qoi.specs.Verdicts.{IsPartOfChunk}

-- a byte and more bytes are bytes
pub byte_and : (b : ℕ) (more : List ℕ) → b < 256 → AreBytes more → AreBytes (b ∷ more)
byte_and b more fits h zero = fits
byte_and b more fits h (suc i) = h i

-- `[]` begins any chunk
pub part_empty : (bytes : List ℕ) → length bytes < 1 → IsPartOfChunk bytes
part_empty [] h = (Place 0, 0, [], omega arith, refl)
part_empty (b ∷ bytes) h = absurd (omega arith)

-- a luma wants a second byte
pub part_luma : (bytes : List ℕ) → AreBytes bytes → length bytes < 2 → 128 ≤ get_or bytes 0 0 → get_or bytes 0 0 < 192 → IsPartOfChunk bytes
part_luma [] fits h low high = absurd (omega arith)
part_luma (b ∷ []) fits h low high = (Luma b 0, 0, [], (low, high, omega arith), refl)
part_luma (b ∷ c ∷ bytes) fits h low high = absurd (omega arith)

-- an RGB chunk has four bytes
pub part_rgb : (bytes : List ℕ) → AreBytes bytes → length bytes < 4 → get_or bytes 0 0 ≡ 254 → IsPartOfChunk bytes
part_rgb [] fits h is = absurd (omega arith)
part_rgb (x ∷ []) fits h is = (Rgb 0 0 0, 0, 0 ∷ 0 ∷ [], (omega arith, omega arith, omega arith), cc)
part_rgb (x ∷ r ∷ []) fits h is = (Rgb r 0 0, 0, 0 ∷ [], (fits 1, omega arith, omega arith), cc)
part_rgb (x ∷ r ∷ g ∷ []) fits h is = (Rgb r g 0, 0, [], (fits 1, fits 2, omega arith), cc)
part_rgb (x ∷ r ∷ g ∷ b ∷ bytes) fits h is = absurd (omega arith)

-- an RGBA chunk has five bytes
pub part_rgba : (bytes : List ℕ) → AreBytes bytes → length bytes < 5 → get_or bytes 0 0 ≡ 255 → IsPartOfChunk bytes
part_rgba [] fits h is = absurd (omega arith)
part_rgba (x ∷ []) fits h is = (Rgba 0 0 0 0, 0, 0 ∷ 0 ∷ 0 ∷ [], (omega arith, omega arith, omega arith, omega arith), cc)
part_rgba (x ∷ r ∷ []) fits h is = (Rgba r 0 0 0, 0, 0 ∷ 0 ∷ [], (fits 1, omega arith, omega arith, omega arith), cc)
part_rgba (x ∷ r ∷ g ∷ []) fits h is = (Rgba r g 0 0, 0, 0 ∷ [], (fits 1, fits 2, omega arith, omega arith), cc)
part_rgba (x ∷ r ∷ g ∷ b ∷ []) fits h is = (Rgba r g b 0, 0, [], (fits 1, fits 2, fits 3, omega arith), cc)
part_rgba (x ∷ r ∷ g ∷ b ∷ a ∷ bytes) fits h is = absurd (omega arith)

-- a slice of each such length is part of a chunk
pub ruleset parts = (part_empty, part_luma, part_rgb, part_rgba)
