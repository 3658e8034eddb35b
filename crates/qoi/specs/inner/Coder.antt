-- A coder between two steps: the pixels that it reads, the bytes that it keeps, its table and its
-- last pixel, by what is still to be written of an image's list; what a step does to that; and the
-- chunk of a fresh pixel as a number.
use Rattle.std.specs.Prelude.{◌≡◌, ◌%◌, ◌<◌, ℕ, Bool, not, ◌&&◌, ◌||◌, nat_lt, if◌then◌else◌, List, [], ◌∷◌, ◌++◌, length, take, Option, Some}
use Rattle.std.specs.List.{AllByRecursion}
pub use Rattle.qoi.specs.declared.encode.coder.Coder.{Coder}
pub use Rattle.qoi.specs.declared.encode.coder.LastPixel.{LastPixel}
pub use Rattle.qoi.specs.declared.encode.piece.Piece.{Piece}
pub use Rattle.qoi.specs.declared.encode.piece.TheConstants.{SPARE, LARGE_ROOM, RUNS_AT_ONCE, REPEATS_AT_ONCE}
pub use Rattle.qoi.specs.declared.encode.pixels.Pixels.{Pixels}
use Rattle.qoi.specs.Qoi.{Chunk, Place, Run, RgbaPixel, IsPixel, Past, previous, hash, IsChunk, bytes_of, chunk_bytes}
use Rattle.qoi.specs.Raw.{pixels_of}
use Rattle.qoi.specs.Written.{fresh, IsFirst}
use Rattle.qoi.specs.Styles.{Style, Places, Tight, some_fresh, names, styled}
use Rattle.qoi.specs.WrittenList.{chosen, list_after}
use Rattle.qoi.specs.inner.Table.{Holds}
use Rattle.qoi.specs.inner.block.Storing.{chunk_of}

-- the pixels of raw bytes
abbrev pub pixels_in : {N : ℕ} → Pixels N → List RgbaPixel
pixels_in {N} raw = pixels_of N raw.bytes.now

-- the bytes of a file that are kept before they go to a writer
abbrev pub kept_bytes : {size : ℕ} → Piece size → List ℕ
kept_bytes s = take s.end s.bytes.now

-- the pixels that a coder puts at their index positions: the fresh ones, and in style Tight all of
-- them
abbrev pub put_in : Style → Past → Past
put_in Tight past = past
put_in style past = fresh past

-- the chunk of the single repeat that is left of a group of n, after runs of 62 and before a fresh
-- pixel: from the index position of the repeated pixel, whether a fresh pixel came, and whether the
-- chunk before names the position
abbrev pub single_chunk : Style → Bool → Bool → ℕ → ℕ → Chunk
single_chunk Places begun named place n = if begun && (nat_lt 1 n || not named) then Place place else Run 1
single_chunk style begun named place n = Run 1

-- the last of the chunks, or the chunk before them if there is none
abbrev pub last_chunk : Option Chunk → List Chunk → Option Chunk
last_chunk before [] = before
last_chunk before (c ∷ cs) = last_chunk (Some c) cs

-- the chunk of this number and size is the first that spells out p after q
pub record SpellsOut (q p : RgbaPixel) (number size : ℕ) (c : Chunk) : Type 0 where
  pub chunk : IsChunk c
  pub bytes : chunk_of size number p.a ≡ bytes_of c
  pub first : (past : Past) → previous past ≡ q → IsFirst past p c

-- What hasn't gone to a writer yet, but for the end marker, `unsent`, is the bytes that are kept,
-- and those that are written in the style for n repeats of the last of the pixels `past`, and for
-- the pixels `rest`. `before` is the chunk before those, if there is one.
pub record Unsent (style : Style) (unsent : List ℕ) (past : Past) (before : Option Chunk) (n : ℕ) (rest : List RgbaPixel) (kept : List ℕ) : Type 0 where
  pub are : AllByRecursion IsPixel rest
  pub before_is : IsPixel (previous past)
  pub unsent_is : unsent ≡ kept ++ chunk_bytes (styled style past before (list_after (chosen style) past n rest))

-- What a table holds, and what is known of the last pixel, after these pixels and this chunk: the
-- pixels that the style puts at their positions, that pixel, whether a fresh one came, and in style
-- Places whether the chunk names the last pixel's position.
pub record CoderAfter (style : Style) (past : Past) (before : Option Chunk) (table : List RgbaPixel) (last : LastPixel) : Type 0 where
  pub table_is : Holds table (put_in style past)
  pub last_is : last.px ≡ previous past
  pub begun_is : last.begun ≡ some_fresh past
  pub named_is : style ≡ Places → last.named ≡ names before (hash (previous past))

-- Between two pixels: repeats of the last one are still to be written, and the pixels `rest`.
pub record CoderBetween (style : Style) (unsent : List ℕ) (rest : List RgbaPixel) (table : List RgbaPixel) (last : LastPixel) (kept : List ℕ) : Type 0 where
  pub past : Past
  pub before : Option Chunk
  pub to_write : Unsent style unsent past before last.repeats rest kept
  pub state : CoderAfter style past before table last

-- of these pixels the rest is left to write, in the same style, whatever others follow
pub record CoderPasses {N size : ℕ} (c : Coder N) (table : List RgbaPixel) (piece : Piece size) (pixels : List RgbaPixel)
    (c' : Coder N) (table' : List RgbaPixel) (piece' : Piece size) (rest : List RgbaPixel) : Type 0 where
  pub style : c'.style ≡ c.style
  pub on : (unsent : List ℕ) (more : List RgbaPixel) → CoderBetween c.style unsent (pixels ++ more) table c.last (kept_bytes piece)
      → CoderBetween c'.style unsent (rest ++ more) table' c'.last (kept_bytes piece')

-- if no others follow these pixels, all that was unsent is kept
pub record CoderEnds {N size : ℕ} (c : Coder N) (table : List RgbaPixel) (piece : Piece size) (pixels : List RgbaPixel) (piece' : Piece size) : Type 0 where
  pub all : (unsent : List ℕ) → CoderBetween c.style unsent pixels table c.last (kept_bytes piece) → unsent ≡ kept_bytes piece'

-- Some pixels are written: from `raw`, table, last pixel and piece to `rest` and the primed ones,
-- whatever others follow.
pub record WritesSome {N ROOM : ℕ} (style : Style) (raw : Pixels N) (table : List RgbaPixel) (last : LastPixel) (piece : Piece ROOM)
    (rest : List ℕ) (table' : List RgbaPixel) (last' : LastPixel) (piece' : Piece ROOM) : Type 0 where
  pub opaque : N ≡ 3 → last'.px.a ≡ 255
  pub whole : length rest % N ≡ 0
  pub less : length (pixels_of N rest) < length (pixels_in raw)
  pub on : (unsent : List ℕ) (more : List RgbaPixel) → CoderBetween style unsent (pixels_in raw ++ more) table last (kept_bytes piece)
      → CoderBetween style unsent (pixels_of N rest ++ more) table' last' (kept_bytes piece')
