-- A buffer that is filled with pixels, and the state of a decoder between two chunks.
use Rattle.std.specs.Prelude.{◌≡◌, ℕ, ◌-◌, ◌*◌, ◌%◌, ◌+◌, ◌<◌, ◌≤◌, List, [], ◌++◌, length, take, reverse, replicate, min, slice_index, ◌⊎◌, Bool, IsTrue, Option, Some, drop}
use Rattle.std.specs.Io.KnownBytes.{Consumes}
pub use Rattle.qoi.specs.declared.decode.fast.Progress.{Progress}
pub use Rattle.qoi.specs.declared.decode.fast.TheConstants.{INPUT_ROOM, OUTPUT_ROOM}
pub use Rattle.qoi.specs.declared.decode.output.TheConstants.{RUN_ROOM}
pub use Rattle.qoi.specs.declared.decode.reached.Reached.{Reached}
use Rattle.qoi.specs.Qoi.{Chunk, RgbaPixel, Past, run_tag, rgb_tag, rgba_tag, IsChunk, AreChunks, bytes_of, chunk_bytes, times, then_chunk, then_chunks, StayBelow}
use Rattle.qoi.specs.inner.Hashed.{pixel_of_lanes, HasSeen}
use Rattle.qoi.specs.Raw.{IsChannels, output}

-- in a buffer, of which the first `at` bytes were written, the bytes of these pixels were written after them
pub record HasWritten (file_channels channels : ℕ) (old : List ℕ) (at : ℕ) (new : List ℕ) (end : ℕ) (pixels : List RgbaPixel) : Type 0 where
  pub at_is : end ≡ at + channels * length pixels
  pub same : take end new ≡ take at old ++ output file_channels channels pixels

-- in so many channels, pixels may be stored up to `end`
pub record CanStore (channels end : ℕ) (out : List ℕ) : Type 0 where
  pub three_or_four : IsChannels channels
  pub room : end ≤ length out

-- the pixel of this number was written so often, after what was written before
abbrev pub HasCopies : ℕ → ℕ → ℕ → ℕ → ℕ → List ℕ → List ℕ → Type 0
HasCopies f c at count px old new = HasWritten f c old at new (at + c * count) (replicate count (pixel_of_lanes px))

-- The buffer has room for n pixels, and what is written of it are the pixels so far, as far as they
-- fit.
pub record HasFilled (file_channels channels n : ℕ) (out : List ℕ) (at : ℕ) (past : Past) : Type 0 where
  pub room : length out ≡ channels * n
  pub at_is : at ≡ channels * min n (length past)
  pub same : take at out ≡ take at (output file_channels channels (reverse past))

-- the buffer can be filled with pixels from where it stops
pub record IsFillable (channels : ℕ) (out : List ℕ) (at : ℕ) : Type 0 where
  pub three_or_four : IsChannels channels
  pub within : at ≤ length out
  pub whole : (length out % channels ≡ 0) × (at % channels ≡ 0)

-- it isn't full and, if `runs_fit`, has room for the vectors of any run
pub record HasRoom (channels : ℕ) (runs_fit : Bool) (out : List ℕ) (at : ℕ) : Type 0 where
  pub fillable : IsFillable channels out at
  pub inside : at < length out
  pub vectors : IsTrue runs_fit → at + RUN_ROOM ≤ length out

-- bytes were written, and don't fill the buffer if it had room for the vectors of any run
pub record FillsMore (channels : ℕ) (old : List ℕ) (at : ℕ) (new : List ℕ) (end : ℕ) : Type 0 where
  pub fillable : IsFillable channels new end
  pub on : at < end
  pub below : at + RUN_ROOM ≤ length old → end < length new

-- what a decoder has between two chunks: the numbers in the table, that of the last pixel, and the
-- output
pub record Filling : Type 0 where
  pub table : List ℕ
  pub last : ℕ
  pub at : ℕ
  pub out : List ℕ

-- the last pixel, and how many bytes of the output are written
abbrev pub reached : ℕ → ℕ → Reached
reached last at = record { last = last; at = at }

-- the table, what was reached, and the output
abbrev pub filling : List ℕ → Reached → List ℕ → Filling
filling table now out = record { table = table; last = now.last; at = now.at; out = out }

-- the bytes are those of a chunk, and its pixels were seen, and written after the others
pub record DecodesChunk (file_channels channels : ℕ) (bytes : List ℕ) (old new : Filling) : Type 0 where
  pub chunk : Chunk
  pub is_chunk : IsChunk chunk
  pub bytes_are : bytes ≡ bytes_of chunk
  pub has_seen : (past : Past) → HasSeen old.table old.last past → HasSeen new.table new.last (then_chunk past chunk)
  pub filled : (n : ℕ) (past : Past) → HasFilled file_channels channels n old.out old.at past
      → HasFilled file_channels channels n new.out new.at (replicate (times chunk) (pixel_of_lanes new.last) ++ past)

-- Chunks of these pixels were taken since `start` stood ahead, `ahead` stands there now, and table and last
-- pixel are theirs.
pub record DecoderAfter (start ahead : Option (List ℕ)) (table : List ℕ) (last : ℕ) (past : Past) : Type 0 where
  pub cs : List Chunk
  pub chunks : AreChunks cs
  pub pixels : then_chunks [] cs ≡ past
  pub taken : Consumes start ahead (chunk_bytes cs)
  pub has_seen : HasSeen table last past

-- chunks were taken, of whose pixels some are gone, and recent ones were written into an output for n
pub record DecoderBetween (file_channels channels : ℕ) (gone : Past) (n : ℕ) (start ahead : Option (List ℕ)) (now : Filling) : Type 0 where
  pub recent : Past
  pub after : DecoderAfter start ahead now.table now.last (recent ++ gone)
  pub stays_below : StayBelow (length gone + n) after.cs
  pub filled : HasFilled file_channels channels n now.out now.at recent

-- P holds however a decoder came there: whatever is gone, for whatever n, and wherever it started
abbrev pub FromAny : ℕ → ℕ → Option (List ℕ) → Filling → (Past → ℕ → Option (List ℕ) → Type 0) → Type 0
FromAny f c ahead now P = (gone : Past) (n : ℕ) (start : Option (List ℕ)) → DecoderBetween f c gone n start ahead now → P gone n start

-- the state of the fast loop, with `count` bytes more taken
abbrev pub taken_further : {N F : ℕ} → ℕ → Progress N F → Progress N F
taken_further count p = record { last = p.last; taken = p.taken + count; at = p.at; next = p.next }

-- `DecoderBetween` for the fast loop over these bytes, which also has the byte that comes next
pub record FastBetween {N F : ℕ} (gone : Past) (n : ℕ) (start : Option (List ℕ)) (bytes : List ℕ) (now : Progress N F) (table out : List ℕ) : Type 0 where
  pub between : DecoderBetween F N gone n start (Some (drop now.taken bytes)) (filling table (reached now.last now.at) out)
  pub next_is : now.next ≡ slice_index bytes now.taken

-- the fast loop may read so many bytes ahead, and write so many
pub record HasAhead {N F : ℕ} (input room : ℕ) (bytes out : List ℕ) (now : Progress N F) : Type 0 where
  pub three_or_four : IsChannels N
  pub whole : now.at % N ≡ 0
  pub byte : now.next < 256
  pub input_is : now.taken + input ≤ length bytes
  pub room_is : now.at + room ≤ length out

-- a loop that tests room for so many short chunks and a full one at once may begin, and `input` bytes stand ahead
pub record CanLoop {N F : ℕ} (at_once input : ℕ) (bytes out : List ℕ) (now : Progress N F) : Type 0 where
  pub at_once_is : (at_once ≡ 1) ⊎ (at_once ≡ 8)
  pub input_is : INPUT_ROOM ≤ length bytes
  pub room_is : 16 * at_once + 16 ≤ length out
  pub ahead : HasAhead input 0 bytes out now

-- the first byte of an RGB or of an RGBA chunk
abbrev pub IsFullTag : ℕ → Type 0
IsFullTag b = (b ≡ rgb_tag) ⊎ (b ≡ rgba_tag)

-- how many bytes the pixels of a chunk have, by its first byte
pub record IsAdvance (channels b size : ℕ) : Type 0 where
  pub once : b < run_tag → size ≡ channels
  pub run : run_tag ≤ b → b < rgb_tag → size ≡ channels * (b - (run_tag - 1))
  pub full : rgb_tag ≤ b → size ≡ channels

-- in a series of RGB chunks the pixel has the alpha of the one before the series
abbrev pub KeepsAlpha : ℕ → ℕ → ℕ → Type 0
KeepsAlpha tag before now = tag ≡ rgb_tag → (pixel_of_lanes now).a ≡ (pixel_of_lanes before).a

-- A step of the fast loop, from its state, table and output to others: how many bytes it takes, at
-- least and at most, and how far it goes in the output at most (vectors may reach further).
pub record FastStep {N F : ℕ} (least most room : ℕ) (bytes : List ℕ) (old : Progress N F) (table out : List ℕ) (new : Progress N F) (table' out' : List ℕ) : Type 0 where
  pub between : (gone : Past) (n : ℕ) (start : Option (List ℕ)) → FastBetween gone n start bytes old table out → FastBetween gone n start bytes new table' out'
  pub taken : (old.taken + least ≤ new.taken) × (new.taken ≤ old.taken + most)
  pub written : (old.at ≤ new.at) × (new.at ≤ old.at + room)
  pub whole : new.at % N ≡ 0
  pub byte : new.next < 256

-- the loop took any chunks, before the end of the bytes and, unless it was reached before, of the output
abbrev pub FastChunks : {N F : ℕ} → List ℕ → Progress N F → List ℕ → List ℕ → Progress N F → List ℕ → List ℕ → Type 0
FastChunks bytes old table out new table' out' = FastStep 0 (length bytes - 1 - old.taken) (length out - 1 - old.at) bytes old table out new table' out'
