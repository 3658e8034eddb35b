-- What a contract sees of an image that is decoded piece by piece.
use Rattle.std.specs.Prelude.{◌≡◌, ℕ, ◌+◌, ◌*◌, ◌<◌, ◌≤◌, List, [], length, take, min, Bool, IsTrue, true, false, Option, Some, IfSome}
use Rattle.std.specs.Io.KnownBytes.{Keeps}
use Rattle.qoi.specs.Qoi.{Channels, Error, Header, channels_number, pixel_count, chunk_max, marker_size}
use Rattle.qoi.specs.DecoderState.{DecoderState, output_byte_count, TakesAtMost}
use Rattle.qoi.specs.Images.{front_image}
use Rattle.qoi.specs.Decoded.{HasDecoded, HasRefused}
use Rattle.qoi.specs.Decoding.{RefusesBytes}
use Rattle.qoi.specs.Reading.{StandsAhead}
use Rattle.qoi.specs.pieces.Sizes.{decoded_ahead}
use Rattle.qoi.specs.pieces.Unread.{Unread, IsUnread, bytes_left}

-- the reader as it stands, the header of the file, the channels of the output, what is unread of the image,
-- and whether it was refused
pub record PixelsState (R : Type 0) : Type 0 where
  pub reader : R
  pub header : Header
  pub channels : Channels
  pub unread : Unread
  pub refused : Bool

-- the decoder as it stands
abbrev pub as_decoder : {R : Type 0} → PixelsState R → DecoderState R
as_decoder p = record { reader = p.reader; header = p.header; channels = p.channels }

-- how many bytes of the image are unread
unfoldable pub unread_bytes : {R : Type 0} → PixelsState R → ℕ
unread_bytes p = bytes_left p.unread

-- an older name
abbrev pub pixels_left : {R : Type 0} → PixelsState R → ℕ
pixels_left p = unread_bytes p

-- The decoder d decodes an image from `start`. The raw bytes `given` were read of it so far, and `now`
-- is ahead.
pub record GivesSoFar {R : Type 0} (d : DecoderState R) (start now : Option (List ℕ)) (given : List ℕ) (p : PixelsState R) : Type 0 where
  -- the image wasn't refused
  pub going : p.refused ≡ false
  -- chunks at the front of `start` were taken, and these are the first bytes of their pixels
  pub unread : IsUnread (channels_number d.header.channels) (channels_number d.channels) (pixel_count d.header) start now given p.unread
  -- header and channels are the decoder's
  pub header : p.header ≡ d.header
  pub channels : p.channels ≡ d.channels
  -- the image has as many bytes as were read and are left
  pub left : length given + unread_bytes p ≡ output_byte_count d
  -- the bytes that were read are the first ones of the image ahead
  pub front : IfSome start (λ bytes. given ≡ take (length given) (front_image d.channels d.header bytes))
  -- for n pixels at most 5n + 8 bytes were taken
  pub within : TakesAtMost (chunk_max * pixel_count d.header + marker_size) start now
  -- if none are left, the decoder's image was decoded, and `given` are its bytes
  pub whole : unread_bytes p ≡ 0 → HasDecoded d start now given

-- The same. It is no abbreviation, so that the prover passes it on whole; nor is HasRows.
unfoldable pub HasGiven : {R : Type 0} → DecoderState R → Option (List ℕ) → Option (List ℕ) → List ℕ → PixelsState R → Type 0
HasGiven d start now given p = GivesSoFar d start now given p

-- F holds of each image of which the reader p gave raw bytes: of its decoder, what it began with, and these bytes.
abbrev pub IfGiven : {R : Type 0} → (R → Option (List ℕ)) → PixelsState R → (DecoderState R → Option (List ℕ) → List ℕ → Type 0) → Type 0
IfGiven ahead p F = (d : DecoderState _) (start : Option (List ℕ)) (given : List ℕ) → HasGiven d start (ahead p.reader) given p → F d start given

-- F holds of each such image that began with known bytes: of its decoder, of these, and of the raw bytes.
abbrev pub IfGivenOf : {R : Type 0} → (R → Option (List ℕ)) → PixelsState R → (DecoderState R → List ℕ → List ℕ → Type 0) → Type 0
IfGivenOf ahead p F = (d : DecoderState _) (bytes given : List ℕ) → HasGiven d (Some bytes) (ahead p.reader) given p → F d bytes given

-- The reader gave no raw bytes yet: its image begins with what is ahead, whatever that is.
abbrev pub IsFresh : {R : Type 0} → (R → Option (List ℕ)) → PixelsState R → Type 0
IsFresh ahead p = HasGiven (as_decoder p) (ahead p.reader) (ahead p.reader) [] p

-- Of that image k rows of `stride` bytes were read.
unfoldable pub HasRows : {R : Type 0} → DecoderState R → Option (List ℕ) → Option (List ℕ) → ℕ → ℕ → PixelsState R → Type 0
HasRows d start now stride k p = (given : List ℕ) × (length given ≡ stride * k) × HasGiven d start now given p

-- The image was refused, and some of it is left.
abbrev pub IsSpent : {R : Type 0} → PixelsState R → Type 0
IsSpent p = (p.refused ≡ true) × (0 < unread_bytes p)

-- The decoder's image, which began at `start`, was refused with the error e. Of a stream `new` is ahead; of a
-- slice `new` isn't used.
abbrev pub RefusesPixels : {R : Type 0} → Bool → DecoderState R → Option (List ℕ) → Option (List ℕ) → Error → Type 0
RefusesPixels true d start new e = HasRefused true d start start e
RefusesPixels false d start new e = HasRefused false d start new e

-- So many raw bytes of the image were read: n, or as many as were left. The reader was p, and is q.
pub record ReadsUpTo {R : Type 0} (n : ℕ) (p q : PixelsState R) (count : ℕ) : Type 0 where
  pub size : count ≡ min n (unread_bytes p)
  pub left : unread_bytes q + count ≡ unread_bytes p

-- Behind the raw bytes `given` n more were to be read, and the image was refused with the error e.
pub record RefusesPiece {R : Type 0} (in_memory : Bool) (d : DecoderState R) (start : Option (List ℕ)) (given : List ℕ) (n : ℕ) (new : Option (List ℕ)) (e : Error) : Type 0 where
  pub why : RefusesPixels in_memory d start new e
  -- In memory no more counts than what was read, the n bytes, and what may be decoded behind them: the bytes are
  -- refused as an image of k pixels, too, if k pixels have that many bytes, or are all.
  pub early : IsTrue in_memory → (bytes : List ℕ) (k : ℕ) → start ≡ Some bytes → k ≤ pixel_count d.header
      → min (length given + n + decoded_ahead) (output_byte_count d) ≤ k * channels_number d.channels → RefusesBytes k bytes e
  -- In memory an image that stands whole isn't refused.
  pub missing : IsTrue in_memory → (bytes : List ℕ) → start ≡ Some bytes → StandsAhead d.header bytes → ⊥

-- A call was refused, and no more of the image can be read. The reader was p, and is q.
pub record StopsAt {R : Type 0} (in_memory : Bool) (ahead : R → Option (List ℕ)) (p q : PixelsState R) : Type 0 where
  pub spent : IsSpent q
  -- as much is left as before
  pub left : unread_bytes q ≡ unread_bytes p
  -- bytes in memory stay
  pub kept : IsTrue in_memory → Keeps (ahead p.reader) (ahead q.reader)
