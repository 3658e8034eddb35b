-- The file of an image (QOI specification 1.0, "File Format" and "Data").
use Rattle.std.specs.Prelude.{◌≡◌, ◌≢◌, ℕ, ◌+◌, ◌-◌, ◌*◌, ◌/◌, ◌%◌, ◌^◌, ◌≤◌, List, ◌∷◌, ◌++◌, drop, length, min, slice_get, slice_set, IsTrue, Result, Ok, Err, ◌==◌, if◌then◌else◌}
use Rattle.std.specs.List.{AllByRecursion}
use Rattle.std.specs.Result.{result_and, result_map_both}
use Rattle.qoi.specs.declared.types.Channels.TheVariants.{Rgb}
use Rattle.qoi.specs.Qoi.{Error, InvalidImageLength, Channels, ColorSpace, Srgb, Header, Chunk, Place, header_size, marker_size, colorspace_at, channels_number, channels_of, colorspace_number, pixel_count, tried_header, header_of, IsValid, RgbaPixel, blank, chunk_bytes, Reaches, file}
use Rattle.qoi.specs.Raw.{pixels_of, image_byte_count}
use Rattle.qoi.specs.Written.{Written}
use Rattle.qoi.specs.Styles.{Style, Tight, WrittenIn}
use Rattle.qoi.specs.WrittenList.{written_list}
use Rattle.qoi.specs.Tight.{floor0}
use Rattle.qoi.specs.Regular.{Regular, Covers}
use Rattle.qoi.specs.Shortest.{floor, is_start, slack}
use Rattle.qoi.specs.Decoding.{DecodesFile}
use Rattle.qoi.specs.Images.{file_image, file_rest}
use Rattle.qoi.specs.Reading.{StandsAhead}

-- the most bytes that the file of an image of this size has, or the greatest usize if that is less
abbrev pub max_len : ℕ → ℕ → ℕ → ℕ
max_len width height channels = min (header_size + width * height * channels + width * height + marker_size) (2 ^ 64 - 1)

-- the same for the image of a header
abbrev pub max_file_len : Header → ℕ
max_file_len h = max_len h.width h.height (channels_number h.channels)

-- n is at least the bytes of header, one chunk byte and end marker, and at most `max_file_len`
abbrev pub IsFileLength : Header → ℕ → Type 0
IsFileLength h n = (header_size + 1 + marker_size ≤ n) × (n ≤ max_file_len h)

-- the channels of an image of this size that has these raw bytes; or the refusal of the length, or of the
-- number of channels, given as 255 if it is greater
abbrev pub measured_channels : List ℕ → ℕ → ℕ → Result Channels Error
measured_channels raw width height =
    if length raw % (width * height) == 0 then channels_of (min (length raw / (width * height)) 255)
    else Err (InvalidImageLength (length raw) width height)

-- the header of an image of raw bytes; or the first refusal: of the dimensions, of the number of
-- bytes, or of the channels
abbrev pub image_header : List ℕ → ℕ → ℕ → Result Header Error
image_header raw width height =
    let found : Channels → Header = (λ channels. record { width = width; height = height; channels = channels; colorspace = Srgb }) in
    result_and (tried_header width height Rgb Srgb) (result_map_both found (λ e. e) (measured_channels raw width height))

-- the pixels of an image's raw bytes
abbrev pub image_pixels : Header → List ℕ → List RgbaPixel
image_pixels h raw = pixels_of (channels_number h.channels) raw

-- The file of the image in a style, as a function of its raw bytes: the header, the chunks that are
-- written, the end marker. `laws::writing::images_have_files` ties it to `IsFileOf`.
unfoldable pub image_file : Style → Header → List ℕ → List ℕ
image_file style h raw = file h (written_list style (image_pixels h raw))

-- the bytes are the header, a list of chunks that is written for the image, and the end marker
pub record IsEncoded (Lists : List RgbaPixel → List Chunk → Type 0) (h : Header) (raw bytes : List ℕ) : Type 0 where
  pub cs : List Chunk
  pub written : Lists (image_pixels h raw) cs
  pub bytes_are : bytes ≡ file h cs

-- The file of the image, if `Lists` says which lists are written for an image. The header is valid,
-- and there are as many raw bytes as it says. There is one file, of at least 23 bytes and at most
-- `max_file_len`. The image comes back whatever follows. Another color space changes one byte alone. No
-- two neighbouring chunks of its list name the same index position.
pub record IsFileBy (Lists : List RgbaPixel → List Chunk → Type 0) (h : Header) (raw bytes : List ℕ) : Type 0 where
  pub valid : IsValid h
  pub size : length raw ≡ image_byte_count h
  pub encoded : IsEncoded Lists h raw bytes
  pub only : (others : List ℕ) → IsEncoded Lists h raw others → others ≡ bytes
  pub fits : length bytes ≤ max_file_len h
  pub long : header_size + 1 + marker_size ≤ length bytes
  pub comes_back : (rest : List ℕ) → DecodesFile (bytes ++ rest) h rest raw
  pub color_space : (space : ColorSpace) (others : List ℕ) → IsEncoded Lists (record h { colorspace = space }) raw others
      → others ≡ slice_set bytes colorspace_at (colorspace_number space)
  pub apart : (cs front rest : List Chunk) (i : ℕ) → Lists (image_pixels h raw) cs → cs ≢ front ++ Place i ∷ Place i ∷ rest

-- the chunks cover the image of these raw bytes, and the last of them, not one before, reaches its
-- last pixel
pub record Spans (h : Header) (raw : List ℕ) (cs : List Chunk) : Type 0 where
  pub covers : Covers (image_pixels h raw) cs
  pub reaches : Reaches (pixel_count h) cs

-- the first pixel is opaque black
abbrev pub OpensBlack : List RgbaPixel → Type 0
OpensBlack image = IsTrue (is_start (slice_get image 0))

-- How short the file is. No regular chunk list of the image has fewer bytes than the floor; the
-- file's list has at most the floor's bytes and the slack's. If no pixel is transparent black, each
-- list is regular.
pub record IsNearShortest (h : Header) (raw bytes : List ℕ) : Type 0 where
  pub floor_is_below : (others : List Chunk) → Spans h raw others → Regular others → floor (image_pixels h raw) ≤ length (chunk_bytes others)
  pub near_floor : length bytes ≤ header_size + marker_size + floor (image_pixels h raw) + slack (image_pixels h raw) (channels_number h.channels)
  pub near_others : (others : List Chunk) → Spans h raw others → Regular others
      → length bytes ≤ length (file h others) + slack (image_pixels h raw) (channels_number h.channels)
  -- no regular list is over four bytes shorter, and none is shorter at all unless the image opens
  -- with opaque black
  pub four_at_most : (others : List Chunk) → Spans h raw others → Regular others → length bytes ≤ length (file h others) + 4
  pub none_shorter : (OpensBlack (image_pixels h raw) → ⊥) → (others : List Chunk) → Spans h raw others → Regular others
      → length bytes ≤ length (file h others)
  pub all_regular : AllByRecursion (λ p. p ≢ blank) (image_pixels h raw) → (others : List Chunk) → Spans h raw others → Regular others

-- Styles Reference and Places: the list is regular, and the file as long as that of the list of
-- `Written`.
pub record IsAsReference (style : Style) (h : Header) (raw bytes : List ℕ) : Type 0 where
  pub regular : (cs : List Chunk) → WrittenIn style (image_pixels h raw) cs → Regular cs
  pub list : List Chunk
  pub written : Written (image_pixels h raw) list
  pub as_long : length bytes ≡ length (file h list)

-- Style Tight: the number of bytes is the least. Header and end marker have 22, the chunks have
-- `floor0`, and no list of the image at all, regular or not, makes a shorter file.
pub record IsShortest (h : Header) (raw : List ℕ) (n : ℕ) : Type 0 where
  pub floor0_is : n ≡ header_size + marker_size + floor0 (image_pixels h raw)
  pub shortest : (others : List Chunk) → Spans h raw others → n ≤ length (file h others)

-- how short the file is in a style
abbrev pub IsShortIn : Style → Header → List ℕ → List ℕ → Type 0
IsShortIn Tight h raw bytes = IsShortest h raw (length bytes)
IsShortIn style h raw bytes = IsAsReference style h raw bytes

-- What is read of the file, as functions of its bytes: its header, its image, and what follows it.
pub record IsReadBack (h : Header) (raw bytes : List ℕ) : Type 0 where
  pub header : header_of bytes ≡ Ok h
  pub image : file_image bytes ≡ raw
  pub header_then : (rest : List ℕ) → header_of (bytes ++ rest) ≡ Ok h
  pub image_then : (rest : List ℕ) → file_image (bytes ++ rest) ≡ raw
  pub rest_then : (rest : List ℕ) → file_rest (bytes ++ rest) ≡ rest
  -- after the header stands the image
  pub stands : StandsAhead h (drop header_size bytes)
  pub stands_then : (rest : List ℕ) → StandsAhead h (drop header_size (bytes ++ rest))

-- The file of the image in a style: no regular list makes it shorter by more than the slack, and it
-- is as short as `IsShortIn` says.
pub record IsFileOf (style : Style) (h : Header) (raw bytes : List ℕ) : Type 0 where
  pub is_file : IsFileBy (WrittenIn style) h raw bytes
  pub is_image_file : bytes ≡ image_file style h raw
  pub near_shortest : IsNearShortest h raw bytes
  pub shortness : IsShortIn style h raw bytes
  pub read_back : IsReadBack h raw bytes
