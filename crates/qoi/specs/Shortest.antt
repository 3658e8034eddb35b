-- The fewest bytes that the pixels of an image take.
use Rattle.std.specs.Prelude.{ℕ, suc, ◌+◌, ◌%◌, List, [], ◌∷◌, Bool, false, ◌==◌, ◌&&◌, ◌||◌, if◌then◌else◌, reverse, Option, None, Some, slice_get}
use Rattle.std.specs.List.{find, list_any, range_with_len}
use Rattle.qoi.specs.Qoi.{RgbaPixel, Past, pixel_eq, start, hash, previous, seen, diff_tag, luma_tag, run_max, after_diff, after_luma}
use Rattle.qoi.specs.Written.{fresh}

-- some Diff gives p after q
unfoldable pub some_diff : RgbaPixel → RgbaPixel → Bool
some_diff q p = list_any (λ d. pixel_eq (after_diff q d) p) (range_with_len diff_tag 64)

-- some Luma gives p after q
unfoldable pub some_luma : RgbaPixel → RgbaPixel → Bool
some_luma q p = list_any (λ d. list_any (λ e. pixel_eq (after_luma q d e) p) (range_with_len 0 256)) (range_with_len luma_tag 64)

-- how many bytes the shortest chunk has that gives the fresh pixel p, if a chunk list is regular; an
-- Rgb keeps alpha
unfoldable pub least : Past → RgbaPixel → ℕ
least past p =
    if pixel_eq (seen past (hash p)) p || some_diff (previous past) p then 1
    else if some_luma (previous past) p then 2
    else if p.a == (previous past).a then 4
    else 5

-- how many repeats the pixels end with
abbrev pub trailing_repeats : Past → ℕ
trailing_repeats [] = 0
trailing_repeats (p ∷ past) = if pixel_eq p (previous past) then suc (trailing_repeats past) else 0

-- A fresh pixel costs its shortest chunk. A repeat costs a byte if it is the first of a group or
-- each 62nd after that, so a group of k repeats costs k / 62, rounded up.
unfoldable pub cost : (Past → RgbaPixel → ℕ) → Past → RgbaPixel → ℕ
cost shortest past p =
    if pixel_eq p (previous past) then (if trailing_repeats past % run_max == 0 then 1 else 0) else shortest past p

-- what the pixels cost, one after the other
abbrev pub total_cost : (Past → RgbaPixel → ℕ) → Past → ℕ
total_cost shortest [] = 0
total_cost shortest (p ∷ past) = total_cost shortest past + cost shortest past p

-- what the pixels of an image cost
abbrev pub floor : List RgbaPixel → ℕ
floor image = total_cost least (reverse image)

-- there is a pixel, and it is opaque black
abbrev pub is_start : Option RgbaPixel → Bool
is_start None = false
is_start (Some p) = pixel_eq p start

-- How many bytes longer the written list may be: none, unless the image opens with opaque black and
-- its first fresh pixel at the index position of opaque black is opaque black. The opening isn't
-- noted, so this pixel is spelled out, which may take a byte more for each channel than its index
-- position.
unfoldable pub slack : List RgbaPixel → ℕ → ℕ
slack image channels =
    if is_start (slice_get image 0)
    && is_start (find (λ p. hash p == hash start) (reverse (fresh (reverse image))))
    then channels else 0
