-- Sixteen pixels, a block, in lanes: the bytes of the chunk that gives each after the one before it,
-- and the state between two pixels with repeats that are still to be written.
use Rattle.std.specs.Prelude.{ℕ, Bool, ◌+◌, ◌*◌, ◌==◌, List, [], ◌∷◌, length, slice_index, if◌then◌else◌, ◌≢◌, suc, true, false, ◌++◌}
use Rattle.qoi.specs.Qoi.{Place, Run, RgbaPixel, IsPixel, hash, Past, pixel_eq, blank, seen, bytes_of}
use Rattle.qoi.specs.Styles.{Style}
use Rattle.qoi.specs.inner.Coder.{single_chunk}
use Rattle.qoi.specs.WrittenList.{steps, diff_steps, luma_steps, fits_in_diff, fits_in_luma, luma_of, first_chunk}

-- a lane: a pixel, the pixel before it, and whether the table holds the pixel at its position
pub record Lane : Type 0 where
  pub px : RgbaPixel
  pub before : RgbaPixel
  pub stands : Bool

-- both are pixels
pub record IsLane (l : Lane) : Type 0 where
  pub px_is : IsPixel l.px
  pub before_is : IsPixel l.before

-- 255 or 0
abbrev pub mask : Bool → ℕ
mask b = if b then 255 else 0

-- what is added to the pixel before
abbrev pub step_of : Lane → RgbaPixel
step_of l = steps l.before l.px

-- as a Diff has it
abbrev pub as_diff : Lane → RgbaPixel
as_diff l = diff_steps (step_of l)

-- as a Luma has it
abbrev pub as_luma : Lane → RgbaPixel
as_luma l = luma_steps (step_of l)

-- alpha stays
abbrev pub same_alpha : Lane → Bool
same_alpha l = (step_of l).a == 0

-- a Diff gives the pixel
abbrev pub fits_diff : Lane → Bool
fits_diff l = fits_in_diff (as_diff l)

-- a Luma gives the pixel
abbrev pub fits_luma : Lane → Bool
fits_luma l = fits_in_luma (as_luma l)

-- the bytes of a lane's chunk: its index position, if the pixel stands there, else as it is spelled
-- out
abbrev pub lane_bytes : Lane → List ℕ
lane_bytes l = bytes_of (if l.stands then Place (hash l.px) else first_chunk l.before l.px)

-- the first of them
abbrev pub first_of : Lane → ℕ
first_of l = slice_index (lane_bytes l) 0

-- the second byte of a Luma, or red
abbrev pub second_of : Lane → ℕ
second_of l = if fits_luma l then slice_index (bytes_of (luma_of (as_luma l))) 1 else l.px.r

-- how many bytes the chunk has
abbrev pub size_of : Lane → ℕ
size_of l = length (lane_bytes l)

-- what is known beside the bytes: the pixels that were put, the last pixel, how many repeats of
-- it are still to be written, and whether the chunk before those names its position
pub record State : Type 0 where
  pub held : Past
  pub last : RgbaPixel
  pub carry : ℕ
  pub named : Bool

-- the lane repeats the pixel before it
abbrev pub is_rep : Lane → Bool
is_rep l = pixel_eq l.px l.before

-- the lane of a pixel p after q, with the table of `held`
abbrev pub lane_of : Past → RgbaPixel → RgbaPixel → Lane
lane_of held q p = record { px = p; before = q; stands = pixel_eq (seen held (hash p)) p }

-- the lanes of pixels after one, with the table of `held`, into which each is put
abbrev pub lanes_of : Past → RgbaPixel → List RgbaPixel → List Lane
lanes_of held q [] = []
lanes_of held q (p ∷ ps) = lane_of held q p ∷ lanes_of (p ∷ held) p ps

-- the next lane repeats, or there is none
abbrev pub goes_on : List Lane → Bool
goes_on [] = true
goes_on (l ∷ ls) = is_rep l

-- the bytes of a group of n repeats before a fresh pixel, of which there are fewer than 62
abbrev pub group_bytes : Style → Bool → RgbaPixel → ℕ → List ℕ
group_bytes style named p n = bytes_of (if n == 1 then single_chunk style true named (hash p) 1 else Run n)

-- the state after a lane's pixel, from whether it repeats, and whether the next one does or there is
-- none
abbrev pub next_by : Bool → Bool → State → RgbaPixel → State
next_by rep more s p = record {
  held = p ∷ s.held;
  last = p;
  carry = if rep then (if more then suc s.carry else 0) else 0;
  named = if rep then (if more then s.named else false) else pixel_eq (seen s.held (hash p)) p;
}

-- the bytes that are written then
abbrev pub step_by : Bool → Bool → Style → State → RgbaPixel → List ℕ
step_by rep more style s p =
    if rep then (if more then [] else group_bytes style s.named p (suc s.carry)) else lane_bytes (lane_of s.held s.last p)

-- what is written for a block's pixels, but for the repeats at its end
abbrev pub block_bytes : Style → State → List RgbaPixel → List ℕ
block_bytes style s [] = []
block_bytes style s (p ∷ ps) =
    let rep = pixel_eq p s.last in
    let more = goes_on (lanes_of (p ∷ s.held) p ps) in
    step_by rep more style s p ++ block_bytes style (next_by rep more s p) ps

-- of pixels after q no fresh one is transparent black that isn't at its position
abbrev pub NoAbsentBlank : Past → RgbaPixel → List RgbaPixel → Type 0
NoAbsentBlank held q [] = Unit {0}
NoAbsentBlank held q (p ∷ ps) = (p ≢ q → seen held (hash p) ≢ p → p ≢ blank) × NoAbsentBlank (p ∷ held) p ps

-- a bit for each pixel that differs from the one before it, the lowest for the first
abbrev pub fresh_marks : RgbaPixel → List RgbaPixel → ℕ
fresh_marks q [] = 0
fresh_marks q (p ∷ ps) = (if pixel_eq p q then 0 else 1) + 2 * fresh_marks p ps
