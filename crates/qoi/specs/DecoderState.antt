-- What a contract sees of a decoder.
use Rattle.std.specs.Prelude.{ℕ, ◌≤◌, List, Option, length}
use Rattle.qoi.specs.Qoi.{Channels, Header, channels_number}
use Rattle.qoi.specs.Decoding.{TakesBytes}
use Rattle.qoi.specs.Raw.{byte_count}

-- the reader as it stands, the header of the file, and the channels of the output
pub record DecoderState (R : Type 0) : Type 0 where
  pub reader : R
  pub header : Header
  pub channels : Channels

-- how many bytes the decoded image has
abbrev pub output_byte_count : {R : Type 0} → DecoderState R → ℕ
output_byte_count d = byte_count d.header (channels_number d.channels)

-- at most `most` bytes were taken
abbrev pub TakesAtMost : ℕ → Option (List ℕ) → Option (List ℕ) → Type 0
TakesAtMost most old new = TakesBytes old new (λ taken. length taken ≤ most)
