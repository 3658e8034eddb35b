-- What a contract sees of an image whose raw bytes come piece by piece, and what a pixel writer promises.
use Rattle.std.specs.Prelude.{◌≡◌, ℕ, ◌+◌, List, ◌++◌, length, Option, Bool, true, false, ◌⊎◌, ◌<◌, ◌≤◌, []}
use Rattle.qoi.specs.Styles.{Style}
use Rattle.qoi.specs.Qoi.{Error, InvalidImageLength, Header, AreBytes}
use Rattle.qoi.specs.Raw.{image_byte_count}
use Rattle.qoi.specs.Errors.{IsIoError}
use Rattle.qoi.specs.Sent.{SendsPart}
use Rattle.qoi.specs.EncoderState.{EncoderState}
use Rattle.qoi.specs.inner.Sending.{appended, ImageBetween, ImageState}

-- the writer as it stands, header and style of the file, how many raw bytes haven't come, how many came with
-- the last call that wasn't refused at once, whether the writer reported a fault, the raw bytes that are
-- held, and the encoder's state behind the bytes that are encoded
pub record WriterState (W : Type 0) : Type 0 where
  pub writer : W
  pub header : Header
  pub style : Style
  pub left : ℕ
  pub came : ℕ
  pub failed : Bool
  pub held : List ℕ
  pub pending : ImageState

-- how many raw bytes of the image haven't come yet; after a fault those of the call that failed count, too
abbrev pub missing_bytes : {W : Type 0} → WriterState W → ℕ
missing_bytes p = p.left

-- an older name
abbrev pub raw_left : {W : Type 0} → WriterState W → ℕ
raw_left p = missing_bytes p

-- the encoder with these raw bytes more
abbrev pub and_raw : EncoderState → List ℕ → EncoderState
and_raw e raw = record e { raw = e.raw ++ raw }

-- The pixel writer was made with the style and header of e, over a writer that had the bytes
-- `before`, if those are known, and took the raw bytes of e.
pub record TakesSoFar {W : Type 0} (contents : W → Option (List ℕ)) (e : EncoderState) (before : Option (List ℕ)) (p : WriterState W) : Type 0 where
  pub header_is : p.header ≡ e.header
  pub style_is : p.style ≡ e.style
  pub works : p.failed ≡ false
  pub size : length e.raw + p.left ≡ image_byte_count e.header
  pub are : AreBytes e.raw
  pub writes : (more : List ℕ) → length more ≡ p.left → AreBytes more
      → ImageBetween appended (and_raw e more) before (contents p.writer) p.pending [] (p.held ++ more)

-- The same, as HasGiven of a pixel reader: the prover passes it on whole.
unfoldable pub HasTaken : {W : Type 0} → (W → Option (List ℕ)) → EncoderState → Option (List ℕ) → WriterState W → Type 0
HasTaken contents e before p = TakesSoFar contents e before p

-- F holds of each encoder whose raw bytes the pixel writer took, and of what its writer had before.
abbrev pub IfTaken : {W : Type 0} → (W → Option (List ℕ)) → WriterState W → (EncoderState → Option (List ℕ) → Type 0) → Type 0
IfTaken contents p F = (e : EncoderState) (before : Option (List ℕ)) → HasTaken contents e before p → F e before

-- A beginning of the file of each image whose raw bytes begin with those of e was sent.
abbrev pub SendsSome : EncoderState → Option (List ℕ) → Option (List ℕ) → Type 0
SendsSome e before now = (more : List ℕ) → length (e.raw ++ more) ≡ image_byte_count e.header → AreBytes more → SendsPart (and_raw e more) before now

-- The pixel writer was made with the style and header of e, over a writer that had `before`, and failed after
-- it was given the raw bytes of e, no more than the image has: those of the call that failed were the last ones,
-- and count as missing.
pub record HasFailed {W : Type 0} (contents : W → Option (List ℕ)) (e : EncoderState) (before : Option (List ℕ)) (p : WriterState W) : Type 0 where
  pub header_is : p.header ≡ e.header
  pub style_is : p.style ≡ e.style
  pub fails : p.failed ≡ true
  pub size : length e.raw ≤ image_byte_count e.header
  pub given : length e.raw + p.left ≡ image_byte_count e.header + p.came
  pub part : SendsSome e before (contents p.writer)

-- The error of a pixel writer that had taken the raw bytes of e, and was given others: a fault if they
-- fit, or that they are too many.
abbrev pub RefusesRaw : {W : Type 0} → (W → Option (List ℕ)) → EncoderState → List ℕ → Option (List ℕ) → WriterState W → Error → Type 0
RefusesRaw contents e raw before p error =
    (IsIoError error × HasFailed contents (and_raw e raw) before p)
    ⊎ ((error ≡ InvalidImageLength (length (e.raw ++ raw)) e.header.width e.header.height)
    × (image_byte_count e.header < length (e.raw ++ raw)) × HasTaken contents e before p)
