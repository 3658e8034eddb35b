-- What a contract says of raw bytes that are copied from a pixel reader, or to a pixel writer.
use Rattle.std.specs.Prelude.{◌≡◌, ℕ, ◌+◌, ◌*◌, ◌<◌, ◌≤◌, min, List, ◌++◌, length, Option, Some, Bool, IsTrue, ◌⊎◌, Result, OnOk, IfErr, IsOk, IsErrOf, IsErrAnd}
use Rattle.std.specs.Io.KnownBytes.{Appends, Consumes, Keeps}
use Rattle.qoi.specs.Qoi.{Error, InvalidImageLength, UnexpectedBufferEnd, pixel_count, channels_number}
use Rattle.qoi.specs.Rectangles.{row_size}
use Rattle.qoi.specs.Errors.{IsIoError}
use Rattle.qoi.specs.Writers.{AppendsBeginning}
use Rattle.qoi.specs.Decoding.{RefusesBytes}
use Rattle.qoi.specs.DecoderState.{DecoderState, output_byte_count}
use Rattle.qoi.specs.EncoderState.{EncoderState}
use Rattle.qoi.specs.pieces.PixelReader.{PixelsState, unread_bytes, HasGiven, IfGiven, RefusesPixels, IsSpent}
use Rattle.qoi.specs.pieces.PixelWriter.{WriterState, missing_bytes, and_raw, HasTaken, IfTaken, HasFailed}
use Rattle.qoi.specs.pieces.Sizes.{copied_at_once, decoded_ahead}

-- how many raw bytes so many rows of the reader's image have
abbrev pub rows_size : {R : Type 0} → PixelsState R → ℕ → ℕ
rows_size p rows = row_size p.channels p.header * rows

-- the reader gave these raw bytes of the image, behind those that it had given
abbrev pub Gives : {R : Type 0} → (R → Option (List ℕ)) → List ℕ → PixelsState R → PixelsState R → Type 0
Gives ahead more p q = IfGiven ahead p (λ d start given. HasGiven d start (ahead q.reader) (given ++ more) q)

-- the writer took these raw bytes, behind those that it had taken
abbrev pub Takes : {W : Type 0} → (W → Option (List ℕ)) → List ℕ → WriterState W → WriterState W → Type 0
Takes contents more w v = IfTaken contents w (λ e before. HasTaken contents (and_raw e more) before v)

-- Of the decoder's image the raw bytes `given` were read, and then `more`. Behind them the image was
-- refused, with this error, and the reader is p.
pub record StopsBehind {R : Type 0} (in_memory : Bool) (ahead : R → Option (List ℕ)) (d : DecoderState R) (start : Option (List ℕ)) (given more : List ℕ) (p : PixelsState R) (error : Error) : Type 0 where
  -- the reader as it stood before the call of `read` that was refused
  pub was : PixelsState R
  pub read : HasGiven d start (ahead was.reader) (given ++ more) was
  -- and as it stands behind that call
  pub why : RefusesPixels in_memory d start (ahead p.reader) error
  pub spent : IsSpent p
  pub left : unread_bytes p ≡ unread_bytes was
  pub kept : IsTrue in_memory → Keeps (ahead was.reader) (ahead p.reader)
  -- In memory no more counts than one more piece and what may be decoded behind it: the bytes are
  -- refused as an image of n pixels, too, if n pixels have that many bytes, or are all.
  pub early : IsTrue in_memory → (bytes : List ℕ) (n : ℕ) → start ≡ Some bytes → n ≤ pixel_count d.header
      → min (length given + length more + copied_at_once + decoded_ahead) (output_byte_count d) ≤ n * channels_number d.channels
      → RefusesBytes n bytes error

-- Of the decoder's image the raw bytes `given` were read, then `more`, and then a piece with which a writer
-- failed. The reader p counts that piece as unread, and gives no more of the image.
pub record FailsBehind {R : Type 0} (ahead : R → Option (List ℕ)) (d : DecoderState R) (start : Option (List ℕ)) (given more piece : List ℕ) (p : PixelsState R) : Type 0 where
  -- the reader as it stood behind the piece
  pub was : PixelsState R
  pub read : HasGiven d start (ahead was.reader) (given ++ (more ++ piece)) was
  -- and as it stands at the end
  pub reader : p.reader ≡ was.reader
  pub spent : IsSpent p
  pub left : unread_bytes p ≡ unread_bytes was + length piece
  pub short : length piece ≤ copied_at_once

-- A copy to a pixel writer broke off: the image was refused, behind bytes that the writer took, or the writer
-- failed, and the reader goes on behind the bytes that the writer was given: the last piece of them counts as
-- missing (`came`), and of it and of what was held perhaps only a part was sent, or nothing.
abbrev pub BreaksCopy : {R W : Type 0} → Bool → (R → Option (List ℕ)) → (W → Option (List ℕ)) → DecoderState R → Option (List ℕ) → List ℕ → EncoderState → Option (List ℕ) → PixelsState R → WriterState W → Error → Type 0
BreaksCopy in_memory ahead contents d start given e before p w error = (more : List ℕ)
    × ((StopsBehind in_memory ahead d start given more p error × HasTaken contents (and_raw e more) before w)
    ⊎ (IsIoError error × HasGiven d start (ahead p.reader) (given ++ more) p × HasFailed contents (and_raw e more) before w
    × (w.came ≤ copied_at_once)))

-- A copy of raw bytes to any writer broke off: the image was refused, behind bytes that were written, or the
-- writer failed, behind bytes that were written and a beginning of one more piece.
abbrev pub BreaksRaw : {R : Type 0} → Bool → (R → Option (List ℕ)) → DecoderState R → Option (List ℕ) → List ℕ → Option (List ℕ) → PixelsState R → Option (List ℕ) → Error → Type 0
BreaksRaw in_memory ahead d start given old p new error = (more : List ℕ)
    × ((StopsBehind in_memory ahead d start given more p error × Appends old new more)
    ⊎ (IsIoError error × (piece : List ℕ) × (now : Option (List ℕ)) × FailsBehind ahead d start given more piece p
    × Appends old now more × AppendsBeginning now new piece))

-- A copy of raw bytes from any reader broke off: the pixel writer was given all bytes that the reader gave, and
-- took them, or failed with a last piece of them.
abbrev pub BreaksInput : {W : Type 0} → (W → Option (List ℕ)) → Option (List ℕ) → Option (List ℕ) → EncoderState → Option (List ℕ) → WriterState W → Error → Type 0
BreaksInput contents old new e before w error = IsIoError error × (raw : List ℕ) × Consumes old new raw
    × (HasTaken contents (and_raw e raw) before w ⊎ (HasFailed contents (and_raw e raw) before w × (w.came ≤ copied_at_once)))

-- The reader gave n raw bytes, and the writer took them: p and w before, q and v after.
pub record Copied {R W : Type 0} (ahead : R → Option (List ℕ)) (contents : W → Option (List ℕ)) (n : ℕ) (p q : PixelsState R) (w v : WriterState W) : Type 0 where
  pub more : List ℕ
  pub size : length more ≡ n
  pub given : Gives ahead more p q
  pub taken : Takes contents more w v
  pub left : unread_bytes q + n ≡ unread_bytes p
  pub room : missing_bytes v + n ≡ missing_bytes w

-- A call was to copy n raw bytes from a reader to a writer: p and w before, q and v after.
pub record Copies {R W T : Type 0} (in_memory : Bool) (ahead : R → Option (List ℕ)) (contents : W → Option (List ℕ)) (n : ℕ) (p q : PixelsState R) (w v : WriterState W) (result : Result T Error) : Type 0 where
  -- a success; of no bytes nothing happens
  pub copied : OnOk result (Copied ahead contents n p q w v)
  pub none : IfTaken contents w (λ e before. n ≡ 0 → IsOk result × (q ≡ p) × (v ≡ w))
  -- the refusals that leave both as they were: fewer are left, the writer takes fewer or failed before, and the image
  -- was refused before
  pub few : unread_bytes p < n → IsErrOf result UnexpectedBufferEnd × (q ≡ p) × (v ≡ w)
  pub many : IfTaken contents w (λ e before. n ≤ unread_bytes p → missing_bytes w < n
      → IsErrOf result (InvalidImageLength (length e.raw + n) e.header.width e.header.height) × (q ≡ p) × (v ≡ w))
  pub failed : (e : EncoderState) (before : Option (List ℕ)) → HasFailed contents e before w → n ≤ unread_bytes p → IsErrAnd result IsIoError × (q ≡ p) × (v ≡ w)
  pub spent : IfTaken contents w (λ e before. n ≤ missing_bytes w → 0 < n → n ≤ unread_bytes p → IsSpent p
      → IsErrOf result UnexpectedBufferEnd × (q ≡ p) × (v ≡ w))
  -- the others: the image is refused, or the writer fails
  pub refused : IfGiven ahead p (λ d start given. IfTaken contents w (λ e before. n ≤ unread_bytes p → n ≤ missing_bytes w
      → IfErr result (BreaksCopy in_memory ahead contents d start given e before q v)))
  -- what stays
  pub unchanged : (q.header ≡ p.header) × (q.channels ≡ p.channels)

-- The reader gave n raw bytes, and they were written: `old` is what any writer had before, and `new` what it had after.
pub record CopiedRaw {R : Type 0} (ahead : R → Option (List ℕ)) (n : ℕ) (p q : PixelsState R) (old new : Option (List ℕ)) : Type 0 where
  pub more : List ℕ
  pub size : length more ≡ n
  pub given : Gives ahead more p q
  pub written : Appends old new more
  pub left : unread_bytes q + n ≡ unread_bytes p

-- A call was to copy n raw bytes, no more than are left, from a reader to any writer: p and w before, q and v after.
pub record CopiesRaw {R W T : Type 0} (in_memory : Bool) (ahead : R → Option (List ℕ)) (contents : W → Option (List ℕ)) (n : ℕ) (p q : PixelsState R) (w v : W) (result : Result T Error) : Type 0 where
  -- a success; of no bytes nothing happens
  pub copied : OnOk result (CopiedRaw ahead n p q (contents w) (contents v))
  pub none : n ≡ 0 → IsOk result × (q ≡ p) × (v ≡ w)
  -- the refusals: an image that was refused before leaves both as they were, and the others are its refusal now and a
  -- fault of the writer
  pub spent : 0 < n → IsSpent p → IsErrOf result UnexpectedBufferEnd × (q ≡ p) × (v ≡ w)
  pub refused : IfGiven ahead p (λ d start given. IfErr result (BreaksRaw in_memory ahead d start given (contents w) q (contents v)))
  -- what stays
  pub unchanged : (q.header ≡ p.header) × (q.channels ≡ p.channels)
