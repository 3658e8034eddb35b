-- What chunks mean are pixels: each of the four numbers is a byte.
use Rattle.std.proofs.Common.{ℕ, List, [], ◌∷◌, Bool, true, false, zero, suc, replicate, arith, ◌==◌, if◌then◌else◌}
use Rattle.std.specs.List.{AllByRecursion}
use Rattle.qoi.specs.Qoi.{Chunk, Place, Diff, Luma, Run, Rgb, Rgba, RgbaPixel, Past, IsPixel, IsChunk, AreChunks, blank, hash, seen, previous, moved, after_diff, after_luma, pixel_after, times, then_chunk, then_chunks, meaning}
use Rattle.qoi.proofs.format.ChunkSteps.{all_append, all_reverse}
use Rattle.qoi.proofs.encoding.lists.WrittenExists.{is_pixel_start}

-- one of two
pixel_if : (b : Bool) (p q : RgbaPixel) → IsPixel p → IsPixel q → IsPixel (if b then p else q)
pixel_if true p q ip iq = ip
pixel_if false p q ip iq = iq

-- what an index position holds
seen_is_pixel : (past : Past) (i : ℕ) → AllByRecursion IsPixel past → IsPixel (seen past i)
unfolding blank
seen_is_pixel [] i are = record { r = omega arith; g = omega arith; b = omega arith; a = omega arith }
seen_is_pixel (p ∷ past) i are = pixel_if (hash p == i) p (seen past i) are.0 (seen_is_pixel past i are.1)

-- the pixel before
previous_is_pixel : (past : Past) → AllByRecursion IsPixel past → IsPixel (previous past)
previous_is_pixel [] are = is_pixel_start
previous_is_pixel (p ∷ past) are = are.0

-- a pixel to which numbers were added
moved_is_pixel : (q : RgbaPixel) (r g b : ℕ) → IsPixel q → IsPixel (moved q r g b)
moved_is_pixel q r g b is = record { r = omega arith; g = omega arith; b = omega arith; a = is.a }

-- what a chunk gives
after_is_pixel : (past : Past) (c : Chunk) → AllByRecursion IsPixel past → IsChunk c → IsPixel (pixel_after past c)
unfolding after_diff after_luma
after_is_pixel past (Place i) are is = seen_is_pixel past i are
after_is_pixel past (Diff d) are is = moved_is_pixel (previous past) _ _ _ (previous_is_pixel past are)
after_is_pixel past (Luma d e) are is = moved_is_pixel (previous past) _ _ _ (previous_is_pixel past are)
after_is_pixel past (Run n) are is = previous_is_pixel past are
after_is_pixel past (Rgb r g b) are is = record { r = is.0; g = is.1; b = is.2; a = (previous_is_pixel past are).a }
after_is_pixel past (Rgba r g b a) are is = record { r = is.0; g = is.1; b = is.2; a = is.3 }

-- so many of it
all_replicate : (n : ℕ) (p : RgbaPixel) → IsPixel p → AllByRecursion IsPixel (replicate n p)
all_replicate zero p is = tt
all_replicate (suc n) p is = (is, all_replicate n p is)

-- what a list of chunks gives after others
then_are_pixels : (past : Past) (cs : List Chunk) → AllByRecursion IsPixel past → AreChunks cs → AllByRecursion IsPixel (then_chunks past cs)
then_are_pixels past [] are all = are
then_are_pixels past (c ∷ cs) are all =
    let next = all_replicate (times c) (pixel_after past c) (after_is_pixel past c are all.0) in
    then_are_pixels (then_chunk past c) cs (all_append IsPixel (replicate (times c) (pixel_after past c)) past next are) all.1

-- and alone
pub meaning_are_pixels : (cs : List Chunk) → AreChunks cs → AllByRecursion IsPixel (meaning cs)
meaning_are_pixels cs all = all_reverse IsPixel (then_chunks [] cs) (then_are_pixels [] cs tt all)
