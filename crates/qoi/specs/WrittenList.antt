-- The chunk list that is written for an image in a style, as a function of its pixels. What it must
-- be, `WrittenIn` says; `laws::writing::written_is_one` ties the two.
use Rattle.std.specs.Prelude.{ℕ, suc, ◌+◌, ◌-◌, ◌*◌, ◌%◌, Bool, ◌==◌, ◌&&◌, nat_lt, if◌then◌else◌, List, [], ◌∷◌, ◌++◌, replicate, Option, None, Some}
use Rattle.qoi.specs.Qoi.{Chunk, Place, Diff, Luma, Run, Rgb, Rgba, RgbaPixel, Past, pixel, moved, pixel_eq, blank, previous, seen, hash, diff_tag, luma_tag}
use Rattle.qoi.specs.Runs.{runs_by}
use Rattle.qoi.specs.Written.{noted}
use Rattle.qoi.specs.Tight.{least_unseen}
use Rattle.qoi.specs.Styles.{Style, Tight, in_style}

-- what is added to q's channels for p's; it wraps at 256
abbrev pub steps : RgbaPixel → RgbaPixel → RgbaPixel
steps q p = pixel ((p.r + (256 - q.r)) % 256) ((p.g + (256 - q.g)) % 256) ((p.b + (256 - q.b)) % 256) ((p.a + (256 - q.a)) % 256)

-- as a Diff has them
abbrev pub diff_steps : RgbaPixel → RgbaPixel
diff_steps s = moved s 2 2 2

-- as a Luma has them
abbrev pub luma_steps : RgbaPixel → RgbaPixel
luma_steps s = pixel ((s.r + (264 - s.g)) % 256) ((s.g + 32) % 256) ((s.b + (264 - s.g)) % 256) s.a

-- such steps fit in a Diff
abbrev pub fits_in_diff : RgbaPixel → Bool
fits_in_diff d = (nat_lt d.r 4 && (nat_lt d.g 4 && nat_lt d.b 4)) && d.a == 0

-- such steps fit in a Luma
abbrev pub fits_in_luma : RgbaPixel → Bool
fits_in_luma l = (nat_lt l.r 16 && (nat_lt l.g 64 && nat_lt l.b 16)) && l.a == 0

-- the Diff of such steps
abbrev pub diff_of : RgbaPixel → Chunk
diff_of d = Diff (diff_tag + d.r * 16 + d.g * 4 + d.b)

-- the Luma of such steps
abbrev pub luma_of : RgbaPixel → Chunk
luma_of l = Luma (luma_tag + l.g) (l.r * 16 + l.b)

-- the chunk that the tests choose
abbrev pub spelled : Bool → Bool → Bool → RgbaPixel → RgbaPixel → RgbaPixel → Chunk
spelled is_diff is_luma keeps d l p =
    if is_diff then diff_of d else (if is_luma then luma_of l else (if keeps then Rgb p.r p.g p.b else Rgba p.r p.g p.b p.a))

-- the first of Diff, Luma, Rgb and Rgba that gives p after q
unfoldable pub first_chunk : RgbaPixel → RgbaPixel → Chunk
first_chunk q p =
    let small = diff_steps (steps q p) in
    let wide = luma_steps (steps q p) in
    spelled (fits_in_diff small) (fits_in_luma wide) ((steps q p).a == 0) small wide p

-- the index position of p if that holds it, else another chunk
abbrev pub by_position : RgbaPixel → RgbaPixel → Chunk → Chunk
by_position held p other = if pixel_eq held p then Place (hash p) else other

-- an index position, if there is one, else another chunk
abbrev pub place_or : Option ℕ → Chunk → Chunk
place_or None other = other
place_or (Some i) other = Place i

-- the chunk of a fresh pixel
abbrev pub chosen : Style → Past → RgbaPixel → Chunk
chosen Tight past p = by_position (seen past (hash p)) p
    (if pixel_eq p blank then place_or (least_unseen past) (first_chunk (previous past) p) else first_chunk (previous past) p)
chosen style past p = by_position (noted past (hash p)) p (first_chunk (previous past) p)

-- The chunks of pixels, with the chunk that `choose` gives for each fresh one. The pixels `past`
-- and n repeats of the last of them stand before; the repeats are still to be written.
unfoldable pub list_after : (Past → RgbaPixel → Chunk) → Past → ℕ → List RgbaPixel → List Chunk
list_after choose past n [] = runs_by (Run 1) n
list_after choose past n (p ∷ rest) =
    if pixel_eq p (previous past) then list_after choose past (suc n) rest
    else runs_by (Run 1) n ++ choose (replicate n (previous past) ++ past) p ∷ list_after choose (p ∷ replicate n (previous past) ++ past) 0 rest

-- the chunk list that is written for an image in a style
abbrev pub written_list : Style → List RgbaPixel → List Chunk
written_list style image = in_style style (list_after (chosen style) [] 0 image)
