-- What a decoder reads if the bytes that stand ahead of it are known. What is `unfoldable` is no
-- abbreviation, so that the prover passes it on whole.
use Rattle.std.specs.Prelude.{◌≡◌, ◌⊎◌, ℕ, List, ◌++◌, take}
use Rattle.qoi.specs.Qoi.{Error, UnexpectedBufferEnd, InvalidPadding, Channels, Header, Chunk, channels_number, header_bytes, IsValid, pixel_count, meaning}
use Rattle.qoi.specs.Raw.{output}
use Rattle.qoi.specs.Verdicts.{IsWhole, AreCut, AreWrong}
use Rattle.qoi.specs.DecoderState.{DecoderState}

-- the bytes are chunks that reach the header's pixels, the end marker and then the rest, and `out`
-- are these pixels in the channels
pub record IsImage (channels : Channels) (bytes : List ℕ) (h : Header) (rest out : List ℕ) : Type 0 where
  pub cs : List Chunk
  pub whole : IsWhole (pixel_count h) bytes cs rest
  pub out_is : out ≡ output (channels_number h.channels) (channels_number channels) (take (pixel_count h) (meaning cs))

-- an image of this header, and the end marker, stand at the front of the bytes
unfoldable pub StandsAhead : Header → List ℕ → Type 0
StandsAhead h bytes = (cs : List Chunk) × (rest : List ℕ) × IsWhole (pixel_count h) bytes cs rest

-- the bytes end before an image of this header does, or within the eight bytes after its chunks
unfoldable pub IsCutAhead : Header → List ℕ → Type 0
IsCutAhead h bytes = AreCut (pixel_count h) bytes

-- an image of this header stands at the front of the bytes, and eight bytes other than the end marker follow it
unfoldable pub IsWrongAhead : Header → List ℕ → Type 0
IsWrongAhead h bytes = AreWrong (pixel_count h) bytes

-- why bytes in memory are refused that stand ahead: cut is UnexpectedBufferEnd, and wrong is
-- InvalidPadding
abbrev pub SaysWhy : Header → List ℕ → Error → Type 0
SaysWhy h bytes e = ((e ≡ UnexpectedBufferEnd) × IsCutAhead h bytes) ⊎ ((e ≡ InvalidPadding) × IsWrongAhead h bytes)

-- The source is the bytes of the decoder's header, which is valid, and then `ahead`; and the
-- decoder's channels are the file's own. It says nothing of the decoder's reader.
unfoldable pub IsDecoderOf : {R : Type 0} → DecoderState R → List ℕ → List ℕ → Type 0
IsDecoderOf d source ahead = (source ≡ header_bytes d.header ++ ahead) × IsValid d.header × (d.channels ≡ d.header.channels)
