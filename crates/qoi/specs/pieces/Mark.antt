-- What a mark keeps of a pixel reader of a slice.
use Rattle.std.specs.Prelude.{◌≡◌, ℕ, ◌+◌, ◌*◌, List, length, Bool, Some}
use Rattle.qoi.specs.declared.decode.pixel_reader.unread.Unread.{Unread}
use Rattle.qoi.specs.Qoi.{Channels, Header, header_size}
use Rattle.qoi.specs.DecoderState.{DecoderState}
use Rattle.qoi.specs.pieces.PixelReader.{PixelsState, HasGiven}
use Rattle.qoi.specs.pieces.Unread.{bytes_left}

-- how many bytes of the slice stand before the mark, and the reader's state but for what is ahead
pub record MarkState : Type 0 where
  pub at : ℕ
  pub header : Header
  pub channels : Channels
  pub unread : Unread
  pub refused : Bool

-- the mark of a reader, behind so many bytes
abbrev pub mark_of : ℕ → PixelsState (List ℕ) → MarkState
mark_of at p = record { at = at; header = p.header; channels = p.channels; unread = p.unread; refused = p.refused }

-- the reader that goes on from a mark, with these bytes ahead
abbrev pub reader_at : MarkState → List ℕ → PixelsState (List ℕ)
reader_at m rest = record { reader = rest; header = m.header; channels = m.channels; unread = m.unread; refused = m.refused }

-- how many bytes of the image are unread behind the mark
unfoldable pub marked_left : MarkState → ℕ
marked_left m = bytes_left m.unread

-- The decoder's image began with `bytes`, behind a header. The raw bytes `given` were read of it before
-- the mark, and what was then ahead stands behind the mark. (No abbreviation, so that the prover passes
-- it on whole; nor is MarksRows.)
unfoldable pub MarksGiven : DecoderState (List ℕ) → List ℕ → List ℕ → MarkState → Type 0
MarksGiven d bytes given m = (rest : List ℕ) × (m.at + length rest ≡ header_size + length bytes) × HasGiven d (Some bytes) (Some rest) given (reader_at m rest)

-- Of that image k rows of `stride` bytes were read before the mark.
unfoldable pub MarksRows : DecoderState (List ℕ) → List ℕ → ℕ → ℕ → MarkState → Type 0
MarksRows d bytes stride k m = (given : List ℕ) × (length given ≡ stride * k) × MarksGiven d bytes given m
