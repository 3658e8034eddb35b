-- What every kind of reader promises of the chunks and the end marker that it takes, and of an image
-- in channels. `in_memory` says whether its bytes stand in memory; only `RefusesImage` says how those
-- are left after a refusal.
use Rattle.std.specs.Prelude.{ℕ, ◌+◌, ◌/◌, ◌<◌, ◌≤◌, List, ◌++◌, length, reverse, Bool, true, false, IsTrue, IsFalse, Option, IfSome}
pub use Rattle.qoi.specs.declared.decode.reader.Conversion.{Conversion}
use Rattle.qoi.specs.Qoi.{Error, channels_number}
use Rattle.qoi.specs.Raw.{output}
use Rattle.qoi.specs.Decoding.{ReadsImage, TakesBytes, RefusesBytes, RefusesTaken}
use Rattle.qoi.specs.DecoderState.{DecoderState}
use Rattle.qoi.specs.inner.Filling.{RUN_ROOM, Filling, IsFillable, DecoderBetween, FromAny}

-- Why chunks of n pixels and the end marker are refused, which begin with the bytes `start`: in memory
-- these are cut or wrong, on a stream those that were taken are.
abbrev pub RefusesChunks : Bool → ℕ → Option (List ℕ) → Option (List ℕ) → Error → Type 0
RefusesChunks true n start new e = IfSome start (λ bytes. RefusesBytes n bytes e)
RefusesChunks false n start new e = TakesBytes start new (λ taken. RefusesTaken n taken e)

-- chunks were taken from the bytes ahead, after those before them; if `stays_open`, they don't fill an output that wasn't full
pub record TakesMore (file_channels channels : ℕ) (stays_open : Bool) (ahead rest : Option (List ℕ)) (old new : Filling) : Type 0 where
  pub between : FromAny file_channels channels ahead old (λ gone n start. DecoderBetween file_channels channels gone n start rest new)
  pub fillable : IsFillable channels new.out new.at
  pub on : old.at ≤ new.at
  pub below : IsTrue stays_open → old.at < length old.out → new.at < length new.out

-- they were taken until the output is full or, if `runs_fit`, until the vectors of a run may not fit
pub record TakesChunks (file_channels channels : ℕ) (runs_fit : Bool) (ahead rest : Option (List ℕ)) (old new : Filling) : Type 0 where
  pub goes_on : TakesMore file_channels channels runs_fit ahead rest old new
  pub filled : IsTrue runs_fit → length new.out < new.at + RUN_ROOM
  pub full : IsFalse runs_fit → length new.out ≤ new.at

-- chunks are refused for any image of the pixels that are gone and those that fit, or of more
abbrev pub RefusesFilling : ℕ → ℕ → Bool → Option (List ℕ) → Option (List ℕ) → Filling → Error → Type 0
RefusesFilling f c in_memory ahead rest old e =
    FromAny f c ahead old (λ gone n start. (all : ℕ) → length gone + n ≤ all → RefusesChunks in_memory all start rest e)

-- the rest of an image, which follows the pixels that are gone, and the end marker were read
abbrev pub ReadsRest : ℕ → ℕ → Option (List ℕ) → Option (List ℕ) → Filling → List ℕ → Type 0
ReadsRest f c ahead rest old out = FromAny f c ahead old (λ gone n start. ReadsImage f c (length gone + n) start rest (output f c (reverse gone) ++ out))

-- the rest of an image or the end marker was refused
abbrev pub RefusesRest : ℕ → ℕ → Bool → Option (List ℕ) → Option (List ℕ) → Filling → Error → Type 0
RefusesRest f c in_memory ahead rest old e = FromAny f c ahead old (λ gone n start. RefusesChunks in_memory (length gone + n) start rest e)

-- the channels of a decoder
abbrev pub conversion_of : {R : Type 0} → DecoderState R → Conversion
conversion_of d = record { channels = d.channels; file_channels = d.header.channels }

-- the output has the image that stood ahead
abbrev pub ReadsIn : Conversion → ℕ → Option (List ℕ) → Option (List ℕ) → List ℕ → Type 0
ReadsIn k size old new out = ReadsImage (channels_number k.file_channels) (channels_number k.channels) (size / channels_number k.channels) old new out
