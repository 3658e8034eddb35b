-- What an index of the rows of a file's image holds.
use Rattle.std.specs.Prelude.{◌≡◌, ℕ, ◌+◌, ◌*◌, ◌%◌, ◌/◌, ◌-◌, ◌<◌, ◌≤◌, slice_index_or, List, [], ◌++◌, length, drop, replicate, Some, Ok, false, All}
use Rattle.qoi.specs.Qoi.{Chunk, Header, Channels, Past, RgbaPixel, previous, channels_number, pixel_count, header_of, header_size, IsValid, AreChunks, chunk_bytes, then_chunks}
use Rattle.qoi.specs.Rectangles as rectangles
use Rattle.qoi.specs.Reading.{StandsAhead}
use Rattle.qoi.specs.inner.Hashed.{pixel_of_lanes, HoldsSeen}
use Rattle.qoi.specs.inner.Table.{Holds}
use Rattle.qoi.specs.DecoderState.{DecoderState}
use Rattle.qoi.specs.pieces.Unread.{kept_count, KeepsWithin, OwesWholePixels}
use Rattle.qoi.specs.pieces.PixelReader.{PixelsState, unread_bytes, HasGiven}
use Rattle.qoi.specs.pieces.Sizes.{decoded_ahead}

-- the decoder, into these channels, of the file with the header h at the front of the bytes
abbrev pub file_decoder : Channels → Header → List ℕ → DecoderState (List ℕ)
file_decoder channels h file = record { reader = drop header_size file; header = h; channels = channels }

-- it is the decoder of the file, into some channels
abbrev pub IsFileDecoder : List ℕ → DecoderState (List ℕ) → Type 0
IsFileDecoder file d = (header_of file ≡ Ok d.header) × (d ≡ file_decoder d.channels d.header file)

-- how many bytes a row of the image has in these channels; `Rectangles` defines it
abbrev pub row_size : Channels → Header → ℕ
row_size channels h = rectangles.row_size channels h

-- A point between two chunks of a file, from which decoding goes on, and the row for which it was noted:
-- what its index positions hold, the last pixel, how many bytes of the file stand before it, how many pixels
-- are to come, and how many of those are copies of the last pixel, from the run before the point.
pub record PointState : Type 0 where
  pub table : List RgbaPixel
  pub last : RgbaPixel
  pub at : ℕ
  pub left : ℕ
  pub run : ℕ
  pub row : ℕ

-- how many pixels are to come
abbrev pub undecoded_pixels : PointState → ℕ
undecoded_pixels m = m.left

-- an older name
abbrev pub PlaceState : Type 0
PlaceState = PointState

-- the point is one of the file's image of n pixels: it stands behind these chunks, of whose pixels all but
-- those of the run are `gone`
pub record StandsAt (n : ℕ) (file : List ℕ) (m : PointState) : Type 0 where
  pub cs : List Chunk
  pub rest : List ℕ
  pub gone : Past
  pub chunks : AreChunks cs
  pub split : drop header_size file ≡ chunk_bytes cs ++ rest
  pub at : m.at ≡ header_size + length (chunk_bytes cs)
  pub pixels : then_chunks [] cs ≡ replicate m.run m.last ++ gone
  pub table : Holds m.table (then_chunks [] cs)
  pub last : m.last ≡ previous (then_chunks [] cs)
  pub left : length gone + m.left ≡ n

-- all points are such
unfoldable pub ArePoints : ℕ → List ℕ → List PointState → Type 0
ArePoints n file points = All (StandsAt n file) points

-- an older name
abbrev pub ArePlaces : ℕ → List ℕ → List PointState → Type 0
ArePlaces n file points = ArePoints n file points

-- The point is that of a row of the image: it doesn't stand above the row, nor further below it than a
-- reader decodes ahead.
pub record IsPointAt (h : Header) (row : ℕ) (m : PointState) : Type 0 where
  pub row_is : m.row ≡ row
  pub below : undecoded_pixels m ≤ h.width * (h.height - row)
  pub near : row_size h.channels h * (h.height - row) ≤ channels_number h.channels * undecoded_pixels m + decoded_ahead

-- How many rows have a point, if each `every`-th one but the first has one, and but for the last rows, which
-- a reader may decode ahead.
abbrev pub points_count : Header → ℕ → ℕ
points_count h every = (h.height - (1 + decoded_ahead / row_size h.channels h)) / every

-- these are the points of those rows
pub record HasPoints (h : Header) (every : ℕ) (points : List PointState) : Type 0 where
  pub some : 0 < every
  pub count : length points ≡ points_count h every
  pub are : (k : ℕ) (m : PointState) → k < length points → IsPointAt h (every * (k + 1)) (slice_index_or points k m)

-- the rows of the points are so many rows apart
abbrev pub AreApart : ℕ → List PointState → Type 0
AreApart every points = (k : ℕ) (m : PointState) → k < length points → PointState.row (slice_index_or points k m) ≡ every * (k + 1)

-- An image stands in the file, whole, and these are points of it, one for each so many rows.
pub record IndexesFile (file : List ℕ) (points : List PointState) : Type 0 where
  pub h : Header
  pub every : ℕ
  pub header : header_of file ≡ Ok h
  pub are : ArePoints (pixel_count h) file points
  pub rows : HasPoints h every points
  pub whole : StandsAhead h (drop header_size file)

-- The same. It is no abbreviation, so that the prover passes it on whole; nor is ReadsFile.
unfoldable pub IsRowIndex : List ℕ → List PointState → Type 0
IsRowIndex file points = IndexesFile file points

-- Raw bytes of the file's image were read, in these channels, and the reader goes on behind them.
unfoldable pub ReadsFile : Channels → Header → List ℕ → PixelsState (List ℕ) → Type 0
ReadsFile channels h file p = (header_of file ≡ Ok h) × (given : List ℕ) × HasGiven (file_decoder channels h file) (Some (drop header_size file)) (Some p.reader) given p

-- A reader of the image in these channels goes on above the row of no point whose pixels to come
-- begin above row `first`, or with it.
abbrev pub IsNearest : Channels → Header → ℕ → List PointState → PixelsState (List ℕ) → Type 0
IsNearest channels h first points p = (k : ℕ) (m : PointState) → k < length points
    → h.width * (h.height - first) ≤ undecoded_pixels (slice_index_or points k m)
    → unread_bytes p ≤ row_size channels h * (h.height - PointState.row (slice_index_or points k m))

-- the point behind what a reader keeps, noted for this row, of which some pixels are to come
pub record IsPointOf (file : List ℕ) (row : ℕ) (p : PixelsState (List ℕ)) (m : PointState) : Type 0 where
  pub row_is : m.row ≡ row
  pub some : 0 < p.unread.unstored
  pub few : kept_count p.unread ≤ decoded_ahead
  pub within : KeepsWithin p.unread
  pub whole : p.unread.unstored % channels_number p.channels ≡ 0
  pub table : (past : Past) → HoldsSeen p.unread.table past → Holds m.table past
  pub last : m.last ≡ pixel_of_lanes p.unread.last
  pub at : m.at ≡ length file - length p.reader
  pub left : m.left ≡ p.unread.unstored / channels_number p.channels
  pub run : m.run ≡ p.unread.run / channels_number p.channels

-- a reader that goes on at a point, with these bytes ahead and into these channels
pub record GoesOnAt (c : Channels) (h : Header) (rest : List ℕ) (m : PointState) (q : PixelsState (List ℕ)) : Type 0 where
  pub valid : IsValid h
  pub header : q.header ≡ h
  pub channels : q.channels ≡ c
  pub going : q.refused ≡ false
  pub reader : q.reader ≡ rest
  pub none : q.unread.from ≡ q.unread.to
  pub pixels : OwesWholePixels (channels_number c) q.unread
  pub table : (past : Past) → Holds m.table past → HoldsSeen q.unread.table past
  pub last : pixel_of_lanes q.unread.last ≡ m.last
  pub left : q.unread.unstored ≡ m.left * channels_number c
  pub run : q.unread.run ≡ m.run * channels_number c
  pub behind : m.run < m.left
