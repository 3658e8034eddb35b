-- What is unread of an image that is read piece by piece, and what is decoded in place.
use Rattle.std.specs.Prelude.{◌≡◌, ℕ, ◌+◌, ◌-◌, ◌*◌, ◌%◌, ◌<◌, ◌≤◌, ◌/◌, List, ◌++◌, length, min, take, drop, reverse, replicate, Bool, false, Option, None, Result, MatchOption, MatchResult}
pub use Rattle.qoi.specs.declared.decode.pixel_reader.unread.Unread.{Unread}
pub use Rattle.qoi.specs.declared.decode.pixel_reader.unread.Refused.{Refused}
use Rattle.qoi.specs.Qoi.{Error, Header, Channels, Past, run_max, channels_number, IsValid}
use Rattle.qoi.specs.Raw.{output, byte_count}
use Rattle.qoi.specs.Decoding.{ReadsImage}
use Rattle.qoi.specs.pieces.Sizes.{decoded_ahead}
use Rattle.qoi.specs.inner.Chunks.{RefusesChunks}
use Rattle.qoi.specs.inner.Filling.{Reached, Filling, DecoderAfter, FromAny}
use Rattle.qoi.specs.inner.Hashed.{pixel_of_lanes}

-- how many raw bytes are stored and aren't given yet
abbrev pub kept_count : Unread → ℕ
kept_count p = p.to - p.from

-- these bytes
abbrev pub kept_raw : Unread → List ℕ
kept_raw p = take (kept_count p) (drop p.from p.bytes)

-- how many bytes of the image aren't given yet: `unstored` counts the rest of a run, too
abbrev pub bytes_left : Unread → ℕ
bytes_left p = kept_count p + p.unstored

-- the kept bytes lie in their array
abbrev pub KeepsWithin : Unread → Type 0
KeepsWithin p = (p.from ≤ p.to) × (p.to ≤ length p.bytes)

-- nothing is kept, and nothing of a run is left
abbrev pub KeepsNothing : Unread → Type 0
KeepsNothing p = (kept_count p ≡ 0) × (p.run ≡ 0)

-- the kept bytes lie there, those that aren't stored are whole pixels, and others follow those of a run
abbrev pub OwesWholePixels : ℕ → Unread → Type 0
OwesWholePixels channels p = KeepsWithin p × (p.unstored % channels ≡ 0) × (p.run % channels ≡ 0) × (p.run ≤ channels * run_max)
    × (0 < p.run → p.run < p.unstored)

-- what is unread of an image of this header in these channels: no more than all of it, as `OwesWholePixels`
-- says unless the image was refused, and `fault` has no error
abbrev pub IsRestOf : Header → Channels → Bool → Unread → Type 0
IsRestOf h channels refused p = IsValid h × KeepsWithin p × (bytes_left p ≤ byte_count h (channels_number channels))
    × (refused ≡ false → OwesWholePixels (channels_number channels) p) × (p.fault ≡ None)

-- chunks were taken, and these are the raw bytes of their pixels, but for the last `run` bytes of a run
abbrev pub LacksRun : ℕ → ℕ → Option (List ℕ) → Option (List ℕ) → List ℕ → ℕ → ℕ → List ℕ → Type 0
LacksRun f c start now table last run bytes =
    (gone : Past) × DecoderAfter start now table last (replicate (run / c) (pixel_of_lanes last) ++ gone) × (bytes ≡ output f c (reverse gone))

-- Of an image of n pixels, which begins with the bytes `start`, these bytes were given, the others are
-- unread, and `now` is ahead.
pub record IsUnread (file_channels channels n : ℕ) (start now : Option (List ℕ)) (given : List ℕ) (p : Unread) : Type 0 where
  pub size : length given + bytes_left p ≡ channels * n
  -- pixels are missing, and all bytes of those so far were given or are kept, but for those of a run
  pub goes_on : 0 < p.unstored → LacksRun file_channels channels start now p.table p.last p.run (given ++ kept_raw p)
  -- or the image and the end marker were read
  pub ends : p.unstored ≡ 0 → ReadsImage file_channels channels n start now (given ++ kept_raw p)

-- A step gave the first `size` bytes of `out`: of each image they follow those that were given before.
pub record GivesMore (file_channels channels : ℕ) (ahead rest : Option (List ℕ)) (old new : Unread) (out : List ℕ) (size : ℕ) : Type 0 where
  pub read : (n : ℕ) (start : Option (List ℕ)) (given : List ℕ) → IsUnread file_channels channels n start ahead given old
      → IsUnread file_channels channels n start rest (given ++ take size out) new
  pub within : size ≤ length out
  pub pixels : OwesWholePixels channels new
  -- as many bytes fewer are left
  pub left : size + bytes_left new ≡ bytes_left old
  -- and `fault` is as before
  pub fault : new.fault ≡ old.fault

-- of an image of n pixels the first `all` have so many raw bytes and as many more as may be decoded ahead, or are
-- all there are
abbrev pub AreEnough : ℕ → ℕ → ℕ → ℕ → Type 0
AreEnough channels n bytes all = (all ≤ n) × (min (bytes + decoded_ahead) (n * channels) ≤ all * channels)

-- A step that was to give `size` bytes was refused: `fault` has an error, and of each image it
-- says why chunks are refused, also if the image had no more pixels than are enough.
pub record RefusesMore (file_channels channels size : ℕ) (in_memory : Bool) (ahead rest : Option (List ℕ)) (old : Unread) (fault : Option Error) : Type 0 where
  pub refused : (n : ℕ) (start : Option (List ℕ)) (given : List ℕ) → IsUnread file_channels channels n start ahead given old
      → (all : ℕ) → AreEnough channels n (length given + size) all → MatchOption fault ⊥ (RefusesChunks in_memory all start rest)

-- so many bytes may be asked of a step: none are kept, and as many are left
pub record Asks (channels : ℕ) (p : Unread) (size : ℕ) : Type 0 where
  pub none : kept_count p ≡ 0
  pub fits : size ≤ bytes_left p
  pub pixels : OwesWholePixels channels p

-- a step gave as many bytes as `size` says of what it returned, or was refused
abbrev pub Steps : {T : Type 0} → ℕ → ℕ → Bool → Option (List ℕ) → Option (List ℕ) → Unread → Unread → List ℕ → (T → ℕ) → Result T Refused → Type 0
Steps f c in_memory ahead rest old new out size result =
    MatchResult result (λ given. GivesMore f c ahead rest old new out (size given)) (λ _. RefusesMore f c (length out) in_memory ahead rest old new.fault)

-- chunks that stood ahead were taken, and the output has their bytes up to where it stopped, but for those of a run
abbrev pub TakesInPlace : ℕ → ℕ → Option (List ℕ) → Option (List ℕ) → Filling → List ℕ → List ℕ → Reached → ℕ → Type 0
TakesInPlace f c ahead rest old table out now run =
    FromAny f c ahead old (λ gone n start. LacksRun f c start rest table now.last run (output f c (reverse gone) ++ take now.at out))

-- whole pixels lie in an output of so many bytes, and what is left of a run are whole pixels
pub record IsInPlace (channels size : ℕ) (now : Reached) (run : ℕ) : Type 0 where
  pub within : now.at ≤ size
  pub whole : now.at % channels ≡ 0
  pub run_whole : run % channels ≡ 0
  pub run_short : run ≤ channels * run_max
