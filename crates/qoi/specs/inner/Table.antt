-- What the table of the 64 index positions holds.
use Rattle.std.specs.Prelude.{◌≡◌, ℕ, ◌<◌, List, slice_get, Option, Some}
use Rattle.std.specs.List.{find, range_with_len}
use Rattle.qoi.specs.Qoi.{RgbaPixel, Past, pixel_eq, blank, positions, seen}

-- The table holds, at each index position, what is seen there of these pixels, which were put there
-- one after the other.
abbrev pub Holds : List RgbaPixel → Past → Type 0
Holds table past = (i : ℕ) → i < positions → slice_get table i ≡ Some (seen past i)

-- the least index position where transparent black is seen, if there is one
unfoldable pub first_blank : Past → Option ℕ
first_blank past = find (λ i. pixel_eq (seen past i) blank) (range_with_len 0 positions)
