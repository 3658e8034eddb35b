-- The format QOI, in the order of its specification 1.0: header, pixels, chunks, what a list of
-- chunks means, files.
use Rattle.std.specs.Prelude.{ℕ, ◌+◌, ◌*◌, ◌/◌, ◌%◌, ◌-◌, ◌<◌, ◌≤◌, List, [], ◌∷◌, ◌++◌, length, take, drop, reverse, replicate, slice_index, slice_index_or, Bool, nat_lt, nat_le, ◌==◌, ◌&&◌, if◌then◌else◌, Result, Ok, Err}
use Rattle.std.specs.Int.{w32, to_be_bytes, from_be_bytes}
use Rattle.std.specs.List.{flat_map, AllByRecursion}
pub use Rattle.qoi.specs.declared.error.Error.{Error}
pub use Rattle.qoi.specs.declared.error.Error.TheVariants.{InvalidMagic, InvalidChannels, InvalidColorSpace, InvalidImageDimensions, InvalidImageLength, OutputBufferTooSmall, UnexpectedBufferEnd, InvalidPadding, IoError, OutOfMemory}
pub use Rattle.qoi.specs.declared.types.Channels.{Channels}
use Rattle.qoi.specs.declared.types.Channels.TheVariants as OfChannels
pub use Rattle.qoi.specs.declared.types.ColorSpace.{ColorSpace}
pub use Rattle.qoi.specs.declared.types.ColorSpace.TheVariants.{Srgb, Linear}
pub use Rattle.qoi.specs.declared.header.Header.{Header}
pub use Rattle.qoi.specs.declared.chunk.Chunk.{Chunk}
pub use Rattle.qoi.specs.declared.chunk.Chunk.TheVariants.{Place, Diff, Luma, Run, Rgb, Rgba}

-- Header ("QOI Header")

-- each member is a byte
abbrev pub AreBytes : List ℕ → Type 0
AreBytes bytes = (i : ℕ) → slice_index bytes i < 256

-- how many bytes a header takes
abbrev pub header_size : ℕ
header_size = 14

-- where a header has its number of channels
abbrev pub channels_at : ℕ
channels_at = 12

-- where a header has its color space's number
abbrev pub colorspace_at : ℕ
colorspace_at = 13

-- the text qoif
abbrev pub magic_bytes : List ℕ
magic_bytes = 0x71 ∷ 0x6f ∷ 0x69 ∷ 0x66 ∷ []

-- the text qoif as a number, the highest byte first
abbrev pub magic_number : ℕ
magic_number = 1903126886

-- the most pixels that an image may have: a limit of this port and of the Rust crate
abbrev pub pixels_max : ℕ
pixels_max = 400000000

-- how many channels there are
abbrev pub channels_number : Channels → ℕ
channels_number OfChannels.Rgb = 3
channels_number OfChannels.Rgba = 4

-- the channels of a number, or its refusal
abbrev pub channels_of : ℕ → Result Channels Error
channels_of n = if n == 3 then Ok OfChannels.Rgb else if n == 4 then Ok OfChannels.Rgba else Err (InvalidChannels n)

-- a color space's number
abbrev pub colorspace_number : ColorSpace → ℕ
colorspace_number Srgb = 0
colorspace_number Linear = 1

-- the color space of a number, or its refusal
abbrev pub colorspace_of : ℕ → Result ColorSpace Error
colorspace_of n =
    if n == 0 then Ok Srgb else if n == 1 then Ok Linear else Err (InvalidColorSpace n)

-- the header's fourteen bytes
abbrev pub header_bytes : Header → List ℕ
header_bytes h = magic_bytes ++ to_be_bytes w32 h.width ++ to_be_bytes w32 h.height ++ channels_number h.channels ∷ colorspace_number h.colorspace ∷ []

-- width times height
abbrev pub pixel_count : Header → ℕ
pixel_count h = h.width * h.height

-- one pixel of three channels in sRGB
abbrev pub default_header : Header
default_header = record { width = 1; height = 1; channels = OfChannels.Rgb; colorspace = Srgb }

-- an image has 1 to 400,000,000 pixels
abbrev pub IsValid : Header → Type 0
IsValid h = (1 ≤ pixel_count h) × (pixel_count h ≤ pixels_max)

-- a header of these fields, or the refusal of its dimensions
abbrev pub tried_header : ℕ → ℕ → Channels → ColorSpace → Result Header Error
tried_header width height channels colorspace =
    if nat_le 1 (width * height) && nat_le (width * height) pixels_max
    then Ok (record { width = width; height = height; channels = channels; colorspace = colorspace })
    else Err (InvalidImageDimensions width height)

-- four bytes from i on, as a number
abbrev pub number_at : List ℕ → ℕ → ℕ
number_at bytes i = from_be_bytes w32 (take 4 (drop i bytes))

-- the header with these channels and color space, or the refusal of the magic or the dimensions
abbrev pub checked_header : List ℕ → Channels → ColorSpace → Result Header Error
checked_header bytes channels colorspace =
    if number_at bytes 0 == magic_number
    then tried_header (number_at bytes 4) (number_at bytes 8) channels colorspace
    else Err (InvalidMagic (number_at bytes 0))

-- the header with these channels, or the first refusal from the channels on
abbrev pub with_channels_read : List ℕ → Result Channels Error → Result Header Error
with_channels_read bytes (Err e) = Err e
with_channels_read bytes (Ok channels) = with_colorspace_read channels (colorspace_of (slice_index bytes colorspace_at))
  where
    with_colorspace_read : Channels → Result ColorSpace Error → Result Header Error
    with_colorspace_read channels (Err e) = Err e
    with_colorspace_read channels (Ok colorspace) = checked_header bytes channels colorspace

-- The header that the bytes begin with, or the first refusal by: length, channels, color space,
-- magic, dimensions. What follows the fourteen bytes doesn't matter.
abbrev pub header_of : List ℕ → Result Header Error
header_of bytes =
    if nat_lt (length bytes) header_size then Err UnexpectedBufferEnd
    else with_channels_read bytes (channels_of (slice_index bytes channels_at))

-- Pixels, and what an index position holds ("Chunks": the running array of 64 previously seen
-- pixels)

-- red, green, blue and alpha
pub record RgbaPixel : Type 0 where
  pub r : ℕ
  pub g : ℕ
  pub b : ℕ
  pub a : ℕ

-- the pixel of four numbers
abbrev pub pixel : ℕ → ℕ → ℕ → ℕ → RgbaPixel
pixel r g b a = record { r = r; g = g; b = b; a = a }

-- each of the four is a byte
pub record IsPixel (p : RgbaPixel) : Type 0 where
  pub r : p.r < 256
  pub g : p.g < 256
  pub b : p.b < 256
  pub a : p.a < 256

-- the pixel that three or four bytes mean: three are opaque
abbrev pub rgba : List ℕ → RgbaPixel
rgba bytes = pixel (slice_index bytes 0) (slice_index bytes 1) (slice_index bytes 2) (slice_index_or bytes 3 255)

-- both are the same pixel
unfoldable pub pixel_eq : RgbaPixel → RgbaPixel → Bool
pixel_eq p q = p.r == q.r && p.g == q.g && p.b == q.b && p.a == q.a

-- the pixel before the first one: opaque black
unfoldable pub start : RgbaPixel
start = pixel 0 0 0 255

-- what an index position holds before any pixel is put there: transparent black
unfoldable pub blank : RgbaPixel
blank = pixel 0 0 0 0

-- how many index positions there are
abbrev pub positions : ℕ
positions = 64

-- the index position of a pixel, 0 to 63
unfoldable pub hash : RgbaPixel → ℕ
hash p = (3 * p.r + 5 * p.g + 7 * p.b + 11 * p.a) % positions

-- the pixels up to some point of an image, the last one first
abbrev pub Past : Type 0
Past = List RgbaPixel

-- the pixel before the next one
abbrev pub previous : Past → RgbaPixel
previous [] = start
previous (p ∷ past) = p

-- what an index position holds: the last pixel seen whose position it is, or transparent black if
-- there is none
abbrev pub seen : Past → ℕ → RgbaPixel
seen [] i = blank
seen (p ∷ past) i = if hash p == i then p else seen past i

-- Chunks ("Chunks")

-- a difference's byte with its six low bits 0: its two high bits are 01, and an index position's
-- are 00
abbrev pub diff_tag : ℕ
diff_tag = 0x40

-- a luma's first byte with its six low bits 0: its two high bits are 10
abbrev pub luma_tag : ℕ
luma_tag = 0x80

-- a run's byte with its six low bits 0: its two high bits are 11
abbrev pub run_tag : ℕ
run_tag = 0xc0

-- the first byte of red, green and blue in full
abbrev pub rgb_tag : ℕ
rgb_tag = 254

-- the first byte of red, green, blue and alpha in full
abbrev pub rgba_tag : ℕ
rgba_tag = 255

-- how many bytes the longest chunk has
abbrev pub chunk_max : ℕ
chunk_max = 5

-- the longest run of one chunk
abbrev pub run_max : ℕ
run_max = 62

-- The numbers that a chunk may have: an index position, the bytes of a difference and of a luma
-- with their two high bits, the length of a run, and bytes of pixels.
abbrev pub IsChunk : Chunk → Type 0
IsChunk (Place i) = i < positions
IsChunk (Diff d) = (diff_tag ≤ d) × (d < luma_tag)
IsChunk (Luma d e) = (luma_tag ≤ d) × (d < run_tag) × (e < 256)
IsChunk (Run n) = (0 < n) × (n ≤ run_max)
IsChunk (Rgb r g b) = (r < 256) × (g < 256) × (b < 256)
IsChunk (Rgba r g b a) = (r < 256) × (g < 256) × (b < 256) × (a < 256)

-- each chunk of the list has such numbers
abbrev pub AreChunks : List Chunk → Type 0
AreChunks cs = AllByRecursion IsChunk cs

-- a chunk's bytes; the six low bits of a run are its length less 1
abbrev pub bytes_of : Chunk → List ℕ
bytes_of (Place i) = i ∷ []
bytes_of (Diff d) = d ∷ []
bytes_of (Luma d e) = d ∷ e ∷ []
bytes_of (Run n) = (run_tag - 1 + n) ∷ []
bytes_of (Rgb r g b) = rgb_tag ∷ r ∷ g ∷ b ∷ []
bytes_of (Rgba r g b a) = rgba_tag ∷ r ∷ g ∷ b ∷ a ∷ []

-- the chunks' bytes, one after the other
abbrev pub chunk_bytes : List Chunk → List ℕ
chunk_bytes cs = flat_map bytes_of cs

-- a pixel with numbers added to red, green and blue; sums wrap at 256, and alpha stays
abbrev pub moved : RgbaPixel → ℕ → ℕ → ℕ → RgbaPixel
moved q r g b = pixel ((q.r + r) % 256) ((q.g + g) % 256) ((q.b + b) % 256) q.a

-- The pixel of a difference: bits 5-4, 3-2 and 1-0 of its byte are the differences of red, green
-- and blue plus 2. Adding 254 takes 2 away, modulo 256.
unfoldable pub after_diff : RgbaPixel → ℕ → RgbaPixel
after_diff q d = moved q (d / 16 % 4 + 254) (d / 4 % 4 + 254) (d % 4 + 254)

-- The pixel of a luma: the low six bits of the first byte are green's difference plus 32, and the
-- high and the low four bits of the second byte are red's and blue's differences, less green's,
-- plus 8. Adding 224 takes 32 away, modulo 256, and adding 216 takes 40 away.
unfoldable pub after_luma : RgbaPixel → ℕ → ℕ → RgbaPixel
after_luma q d e = moved q (d % 64 + e / 16 + 216) (d % 64 + 224) (d % 64 + e % 16 + 216)

-- the pixel that a chunk gives after these pixels; only Place and Rgba change alpha
abbrev pub pixel_after : Past → Chunk → RgbaPixel
pixel_after past (Place i) = seen past i
pixel_after past (Diff d) = after_diff (previous past) d
pixel_after past (Luma d e) = after_luma (previous past) d e
pixel_after past (Run n) = previous past
pixel_after past (Rgb r g b) = pixel r g b (previous past).a
pixel_after past (Rgba r g b a) = pixel r g b a

-- how many times a chunk gives its pixel: once, but for a run
abbrev pub times : Chunk → ℕ
times (Place i) = 1
times (Diff d) = 1
times (Luma d e) = 1
times (Run n) = n
times (Rgb r g b) = 1
times (Rgba r g b a) = 1

-- the pixels after a chunk
abbrev pub then_chunk : Past → Chunk → Past
then_chunk past c = replicate (times c) (pixel_after past c) ++ past

-- What a list of chunks means ("Chunks" and "Data")

-- the pixels after these chunks
abbrev pub then_chunks : Past → List Chunk → Past
then_chunks past [] = past
then_chunks past (c ∷ cs) = then_chunks (then_chunk past c) cs

-- the pixels that a chunk list means, in order
abbrev pub meaning : List Chunk → List RgbaPixel
meaning cs = reverse (then_chunks [] cs)

-- P holds of each chunk and the pixels before it
abbrev pub Each : (Past → Chunk → Type 0) → Past → List Chunk → Type 0
Each P past [] = Unit {0}
Each P past (c ∷ cs) = P past c × Each P (then_chunk past c) cs

-- fewer than n pixels stand before each chunk
abbrev pub StayBelow : ℕ → List Chunk → Type 0
StayBelow n cs = Each (λ past c. length past < n) [] cs

-- the chunks reach n pixels: with the last of them, and not before
pub record Reaches (n : ℕ) (cs : List Chunk) : Type 0 where
  pub stays_below : StayBelow n cs
  pub enough : n ≤ length (meaning cs)

-- Files ("File Format" and "Data")

-- how many bytes the end marker has
abbrev pub marker_size : ℕ
marker_size = 8

-- the eight bytes that end a file
abbrev pub end_marker : List ℕ
end_marker = 0 ∷ 0 ∷ 0 ∷ 0 ∷ 0 ∷ 0 ∷ 0 ∷ 1 ∷ []

-- header, chunks and end marker
abbrev pub file : Header → List Chunk → List ℕ
file h cs = header_bytes h ++ (chunk_bytes cs ++ end_marker)

-- a valid header, and chunks that reach its number of pixels
pub record IsFile (h : Header) (cs : List Chunk) : Type 0 where
  pub valid : IsValid h
  pub chunks : AreChunks cs
  pub reaches : Reaches (pixel_count h) cs

-- the file's pixels; what a last run gives past them is dropped
abbrev pub file_pixels : Header → List Chunk → List RgbaPixel
file_pixels h cs = take (pixel_count h) (meaning cs)
