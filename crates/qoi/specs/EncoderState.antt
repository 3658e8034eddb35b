-- What a contract sees of an encoder.
use Rattle.std.specs.Prelude.{ℕ, List}
use Rattle.qoi.specs.Qoi.{Header}
use Rattle.qoi.specs.Styles.{Style, Reference}

-- the raw bytes, the header that the file gets, and the style
pub record EncoderState : Type 0 where
  pub raw : List ℕ
  pub header : Header
  pub style : Style

-- the encoder of the free calls
abbrev pub free_encoder : Header → List ℕ → EncoderState
free_encoder h raw = record { raw = raw; header = h; style = Reference }
