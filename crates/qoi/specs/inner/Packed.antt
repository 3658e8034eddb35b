-- Pixels as single numbers.
use Rattle.std.specs.Prelude.{ℕ, ◌+◌, ◌*◌, ◌/◌, ◌%◌, ◌^◌}
use Rattle.qoi.specs.Qoi.{RgbaPixel, pixel}

-- a pixel in 32 bits: red in the lowest byte, then green, blue and alpha
abbrev pub word : RgbaPixel → ℕ
word p = p.r + p.g * 2 ^ 8 + p.b * 2 ^ 16 + p.a * 2 ^ 24

-- the pixel of such a number
abbrev pub pixel_of_word : ℕ → RgbaPixel
pixel_of_word w = pixel (w % 2 ^ 8) (w / 2 ^ 8 % 2 ^ 8) (w / 2 ^ 16 % 2 ^ 8) (w / 2 ^ 24)
