-- What decoding an image returns and takes, and what its refusals say.
use Rattle.std.specs.Prelude.{◌≡◌, ℕ, ◌+◌, ◌-◌, ◌/◌, ◌<◌, ◌⊎◌, List, [], ◌++◌, length, take, drop, Bool, true, false, Option, Result, Ok, Err, IfSome}
use Rattle.std.specs.Io.KnownBytes.{Consumes, Keeps}
use Rattle.qoi.specs.Qoi.{Error, OutputBufferTooSmall, UnexpectedBufferEnd, InvalidPadding, IoError, Header, Chunk, header_size, run_max, AreChunks, chunk_bytes, Reaches, meaning, IsFile, marker_size, end_marker, file, file_pixels, channels_number, header_bytes, header_of, pixel_count, IsValid}
use Rattle.qoi.specs.Raw.{output}
use Rattle.qoi.specs.Verdicts.{IsWhole, AreCut, AreWrong, AreWrongThen}

-- chunks that reach n pixels were taken, and then the end marker, and `out` are the bytes of their
-- first n pixels
pub record ReadsImage (file_channels channels n : ℕ) (old new : Option (List ℕ)) (out : List ℕ) : Type 0 where
  pub cs : List Chunk
  pub chunks : AreChunks cs
  pub reaches : Reaches n cs
  pub taken : Consumes old new (chunk_bytes cs ++ end_marker)
  pub out_is : out ≡ output file_channels channels (take n (meaning cs))

-- bytes were taken, of which P holds
abbrev pub TakesBytes : Option (List ℕ) → Option (List ℕ) → (List ℕ → Type 0) → Type 0
TakesBytes old new P = (taken : List ℕ) × Consumes old new taken × P taken

-- Why bytes in memory are refused: cut is UnexpectedBufferEnd, and wrong is InvalidPadding. For 0 pixels
-- no chunk comes: the end marker had to stand at the front.
abbrev pub RefusesBytes : ℕ → List ℕ → Error → Type 0
RefusesBytes n bytes UnexpectedBufferEnd = AreCut n bytes
RefusesBytes n bytes InvalidPadding = AreWrong n bytes
RefusesBytes n bytes _ = ⊥

-- why a stream is refused, by the bytes that were taken: they are cut, or wrong and end with the eight
abbrev pub RefusesTaken : ℕ → List ℕ → Error → Type 0
RefusesTaken n taken (IoError e) = AreCut n taken
RefusesTaken n taken InvalidPadding = AreWrongThen n taken []
RefusesTaken n taken _ = ⊥

-- how many bytes the chunks of n pixels and the end marker have at least: a chunk has a byte or
-- more, and gives 62 pixels at most
abbrev pub least_byte_count : ℕ → ℕ
least_byte_count n = (n + (run_max - 1)) / run_max + marker_size

-- a refused image: in memory nothing is taken; on a stream the bytes that were taken say why
abbrev pub RefusesImage : Bool → ℕ → Option (List ℕ) → Option (List ℕ) → Error → Type 0
RefusesImage true n old new e = Keeps old new × IfSome old (λ bytes. RefusesBytes n bytes e)
RefusesImage false n old new e = TakesBytes old new (λ taken. RefusesTaken n taken e)

-- why a stream's header is refused, by the bytes that were taken: fewer than fourteen, or fourteen
-- that are refused
abbrev pub RefusesTakenHeader : List ℕ → Error → Type 0
RefusesTakenHeader taken (IoError e) = length taken < header_size
RefusesTakenHeader taken e = (length taken ≡ header_size) × (header_of taken ≡ Err e)

-- the fourteen bytes of a valid header were taken
abbrev pub TakesHeader : Option (List ℕ) → Option (List ℕ) → Header → Type 0
TakesHeader old new h = (taken : List ℕ) × Consumes old new taken × (length taken ≡ header_size) × (header_of taken ≡ Ok h)
    × (taken ≡ header_bytes h) × IsValid h

-- What reading a header returns and takes. In memory a refusal takes nothing, and is that of
-- `header_of` on the bytes ahead.
abbrev pub ReadsHeader : Bool → Option (List ℕ) → Option (List ℕ) → Result Header Error → Type 0
ReadsHeader in_memory old new (Ok h) = TakesHeader old new h
ReadsHeader true old new (Err e) = Keeps old new × IfSome old (λ bytes. header_of bytes ≡ Err e)
ReadsHeader false old new (Err e) = TakesBytes old new (λ taken. RefusesTakenHeader taken e)

-- The bytes are a file with this header and then the rest, and `out` are its pixels in the file's
-- channels. The bytes begin with no other file, so what follows never changes the reading.
pub record DecodesFile (bytes : List ℕ) (h : Header) (rest out : List ℕ) : Type 0 where
  pub cs : List Chunk
  pub is_file : IsFile h cs
  pub split : bytes ≡ file h cs ++ rest
  pub out_is : out ≡ output (channels_number h.channels) (channels_number h.channels) (file_pixels h cs)
  pub only : (k : Header) (ds : List Chunk) (more : List ℕ) → IsFile k ds → bytes ≡ file k ds ++ more → (k ≡ h) × (ds ≡ cs) × (more ≡ rest)
  pub header : header_of bytes ≡ Ok h
  pub whole : IsWhole (pixel_count h) (drop header_size bytes) cs rest

-- the buffer is shorter than the image
abbrev pub RefusesBuffer : ℕ → ℕ → Error → Type 0
RefusesBuffer size required e = (size < required) × (e ≡ OutputBufferTooSmall size required)

-- why bytes are refused, whatever they would be decoded into: e is the refusal of their header; or the bytes
-- after a header are cut or wrong
abbrev pub RefusesFile : List ℕ → Error → Type 0
RefusesFile bytes e = (header_of bytes ≡ Err e)
    ⊎ ((h : Header) × (header_of bytes ≡ Ok h) × RefusesBytes (pixel_count h) (drop header_size bytes) e)

-- No file stands at the front of the bytes, and they are refused with the error e. It is no
-- abbreviation, so that the prover passes it on whole.
unfoldable pub IsNoFile : List ℕ → Error → Type 0
IsNoFile bytes e = RefusesFile bytes e
