-- How the bytes of a file that haven't gone to a writer yet, but for the end marker (`unsent`), go there
-- through a piece. `wrote a bytes b` says that the writer a became b by writing the bytes.
use Rattle.std.specs.Prelude.{◌≡◌, ⊤, ℕ, ◌+◌, ◌*◌, ◌%◌, ◌<◌, ◌≤◌, ◌⊎◌, List, [], ◌++◌, length, Option, None, Result, MatchResult, IfOk}
use Rattle.std.specs.Borrow.{Bor}
pub use Rattle.qoi.specs.declared.encode.piece.OpenPiece.{OpenPiece}
use Rattle.qoi.specs.declared.encode.piece.Piece.{Piece}
pub use Rattle.qoi.specs.declared.encode.image.ImageState.{ImageState}
use Rattle.qoi.specs.Styles.{Style}
use Rattle.qoi.specs.Encoded.{IsFileOf, image_file}
use Rattle.qoi.specs.EncoderState.{EncoderState}
use Rattle.qoi.specs.Qoi.{Error, Channels, channels_number, marker_size, end_marker}
use Rattle.qoi.specs.Writers.{WroteBut, WroteBeginning}
use Rattle.std.specs.Io.KnownBytes.{Appends}
use Rattle.qoi.specs.inner.Coder.{kept_bytes, CoderAfter, CoderBetween, SPARE, LARGE_ROOM}
use Rattle.qoi.specs.Raw.{pixels_of}

-- how many bytes a pixel of the image has
abbrev pub pixel_size : ImageState → ℕ
pixel_size p = channels_number p.channels

-- in three channels the last pixel is opaque
abbrev pub EndsOpaque : ImageState → Type 0
EndsOpaque p = pixel_size p ≡ 3 → p.last.px.a ≡ 255

-- nothing came yet of an image with these channels, in this style
pub record IsNew (channels : Channels) (style : Style) (p : ImageState) : Type 0 where
  pub channels_is : p.channels ≡ channels
  pub style_is : p.style ≡ style
  pub none : p.last.repeats ≡ 0
  pub state : CoderAfter style [] None p.table p.last

-- from one state to another the channels and the style stay
abbrev pub StaysIn : (p p' : ImageState) → Type 0
StaysIn p p' = (p'.channels ≡ p.channels) × (p'.style ≡ p.style)

-- between two pixels: what hasn't gone to a writer yet, `unsent`, is what is kept, the repeats that wait,
-- and the chunks of these raw bytes
abbrev pub Between : (unsent : List ℕ) → ImageState → (kept raw : List ℕ) → Type 0
Between unsent p kept raw = CoderBetween p.style unsent (pixels_of (pixel_size p) raw) p.table p.last kept

-- the coder went on, whatever raw bytes follow: what was unsent still is
pub record CoderGoes (p : ImageState) (kept raw : List ℕ) (p' : ImageState) (kept' raw' : List ℕ) : Type 0 where
  pub on : (unsent more : List ℕ) → Between unsent p kept (raw ++ more) → Between unsent p' kept' (raw' ++ more)

-- the raw bytes are whole pixels, which may come next: in three channels the last one was opaque
abbrev pub AreNextPixels : ImageState → List ℕ → Type 0
AreNextPixels p raw = EndsOpaque p × (length raw % pixel_size p ≡ 0)

-- some whole pixels went into the piece: the piece, and the raw bytes that are left
pub record FillsPiece {size : ℕ} (p : ImageState) (piece : OpenPiece size) (raw : List ℕ) (p' : ImageState) (result : Piece size × Bor (List ℕ)) : Type 0 where
  pub stays : StaysIn p p'
  pub goes : CoderGoes p (kept_bytes piece.piece) raw p' (kept_bytes result.0) result.1.now
  pub whole : AreNextPixels p' result.1.now
  pub less : length result.1.now < length raw

module _ {W : Type 0} (wrote : W → List ℕ → W → Type 0) (a : W) (p : ImageState) (kept raw : List ℕ) where
  -- From one state to another, whatever raw bytes follow: of the bytes that were unsent the first ones
  -- were written, and the others are unsent. As many raw bytes as before go past the last whole pixel.
  pub record GoesOn (b : W) (p' : ImageState) (kept' raw' : List ℕ) : Type 0 where
    pub opaque : EndsOpaque p'
    pub part : length raw' % pixel_size p' ≡ length raw % pixel_size p
    pub on : (unsent more : List ℕ) → Between unsent p kept (raw ++ more)
        → (later : List ℕ) × WroteBut wrote a unsent later b × Between later p' kept' (raw' ++ more)

  -- From such a state to a fault: a beginning of those bytes was written.
  pub record BreaksOff (b : W) : Type 0 where
    pub off : (unsent more : List ℕ) → Between unsent p kept (raw ++ more) → WroteBeginning wrote a unsent b

  -- the first up to what a result has kept and left, or the second after a fault
  abbrev pub GoesOnOrBreaks : {T : Type 0} → (Error → Type 0) → W → ImageState → (kept' raw' : T → List ℕ) → Result T Error → Type 0
  GoesOnOrBreaks IsFault b p' kept' raw' result =
      MatchResult result (λ r. GoesOn b p' (kept' r) (raw' r)) (λ e. IsFault e × BreaksOff b)

  -- From such a state to the end, if no raw bytes follow: all that was unsent was written, and the end
  -- marker. If `wrote` is `WroteBeginning` of another relation, a beginning of that was.
  pub record Ends (b : W) : Type 0 where
    pub all : (unsent : List ℕ) → Between unsent p kept raw → wrote a (unsent ++ end_marker) b

-- it ended, or did so early with a fault
abbrev pub EndsWith : {W : Type 0} → (W → List ℕ → W → Type 0) → (Error → Type 0) → W → ImageState → (kept raw : List ℕ) → W → Result ⊤ Error → Type 0
EndsWith wrote IsFault a p kept raw b result =
    MatchResult result (λ _. Ends wrote a p kept raw b) (λ e. IsFault e × Ends (WroteBeginning wrote) a p kept raw b)

-- Whole pixels can be written through a piece of this size. A writer that can take `free` bytes has
-- room: for what is unsent and the end marker, or for the largest piece's room at each raw byte and
-- one more.
pub record IsReady (free size : ℕ) (p : ImageState) (kept raw : List ℕ) : Type 0 where
  pub whole : AreNextPixels p raw
  pub large : 2 * SPARE ≤ size
  pub enough : ((unsent : List ℕ) × Between unsent p kept raw × (length unsent + marker_size ≤ free))
      ⊎ ((size ≤ LARGE_ROOM) × (LARGE_ROOM * (length raw + 1) ≤ free))

-- The coder went on with whole pixels, but for those that the result has left, fewer than a block has,
-- which can be written, too, through the piece that it has; or it broke off.
abbrev pub WritesWhole : {W : Type 0} {size : ℕ} → (W → List ℕ → W → Type 0) → (W → ℕ) → (Error → Type 0) → W → ImageState → OpenPiece size → List ℕ
    → W → ImageState → Result (Bor (List ℕ) × OpenPiece size) Error → Type 0
WritesWhole {size = size} wrote room IsFault a p piece raw b p' result =
    GoesOnOrBreaks wrote a p (kept_bytes piece.piece) raw IsFault b p' (λ r. kept_bytes r.1.piece) (λ r. r.0.now) result
    × IfOk result (λ r. (length r.0.now < 16 * pixel_size p') × (length r.0.now ≤ length raw)
    × IsReady (room b) size p' (kept_bytes r.1.piece) r.0.now)

-- Between two pixels of an image: of its file all was written but what is unsent, and the end marker.
pub record ImageBetween {W : Type 0} (wrote : W → List ℕ → W → Type 0) (e : EncoderState) (a b : W) (p : ImageState) (kept raw : List ℕ) : Type 0 where
  pub unsent : List ℕ
  pub went : WroteBut wrote a (image_file e.style e.header e.raw) (unsent ++ end_marker) b
  pub between : Between unsent p kept raw

-- the file of an image was written, and the result is how many bytes it has, or a beginning of it was
abbrev pub WritesImage : {W : Type 0} → (W → List ℕ → W → Type 0) → (Error → Type 0) → EncoderState → W → W → Result ℕ Error → Type 0
WritesImage wrote IsFault e a b result = (bytes : List ℕ) × IsFileOf e.style e.header e.raw bytes
    × MatchResult result (λ n. (n ≡ length bytes) × wrote a bytes b) (λ error. IsFault error × WroteBeginning wrote a bytes b)

-- the bytes were appended to those that are known, as a writer's relation
abbrev pub appended : Option (List ℕ) → List ℕ → Option (List ℕ) → Type 0
appended a bytes b = Appends a b bytes
