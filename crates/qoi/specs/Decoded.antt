-- What a decoding call promises of a success, and of a refusal. The first field of each record (of
-- `HasHeader` the first two) says what it means; the others follow, and are what callers need. `old` and `new` are the bytes
-- ahead before and after the call, if they are known: of a slice always, of a reader if its contract
-- states them.
use Rattle.std.specs.Prelude.{◌≡◌, ℕ, ◌+◌, ◌-◌, ◌*◌, ◌<◌, ◌≤◌, List, ◌++◌, take, drop, length, slice_index, Bool, IsTrue, Option, Some, IfSome, Ok}
use Rattle.qoi.specs.Styles.{Style}
use Rattle.qoi.specs.declared.types.Channels.TheVariants.{Rgb, Rgba}
use Rattle.qoi.specs.Encoded.{IsFileOf}
use Rattle.qoi.specs.Qoi.{Error, UnexpectedBufferEnd, InvalidPadding, Channels, Chunk, Header, channels_number, pixel_count, chunk_max, marker_size, header_size, run_max, header_of, IsFile, file}
use Rattle.qoi.specs.Raw.{without_fourth, HasImageLength, capped_byte_count, raw_per_byte}
use Rattle.qoi.specs.Verdicts.{IsWhole, AreCut, AreWrong}
use Rattle.qoi.specs.Decoding.{DecodesFile, ReadsImage, RefusesImage, RefusesFile, TakesBytes, TakesHeader, RefusesTakenHeader, least_byte_count}
use Rattle.qoi.specs.EncoderState.{EncoderState}
use Rattle.qoi.specs.Sent.{MakesFile}
use Rattle.qoi.specs.Tiles.{HasTile, HasPicture}
use Rattle.qoi.specs.DecoderState.{DecoderState, output_byte_count, TakesAtMost}
use Rattle.qoi.specs.Reading.{IsDecoderOf, IsImage, StandsAhead}
use Rattle.qoi.specs.Images.{front_image, front_rest, file_image, file_image_in, file_rest, BeginsWithFile}
use Rattle.qoi.specs.Errors.{IsIoError, IsReaderFault, IsErrorOfCut, IsErrorOfWrong}

-- The decoder d was made: it took the header from the bytes ahead.
pub record HasHeader {R : Type 0} (d : DecoderState R) (old new : Option (List ℕ)) : Type 0 where
  -- fourteen bytes were taken, which are those of the header, and it is valid
  pub takes : TakesHeader old new d.header
  -- the channels of the output are the header's
  pub channels : d.channels ≡ d.header.channels
  -- the header is that of the bytes
  pub header : IfSome old (λ bytes. header_of bytes ≡ Ok d.header)
  -- what follows it is left
  pub after : IfSome old (λ bytes. new ≡ Some (drop header_size bytes))
  -- the image ahead, and what follows it, are those of the file at the front of the bytes
  pub image : IfSome old (λ bytes. IfSome new (λ ahead. (front_image d.channels d.header ahead ≡ file_image bytes)
      × (front_rest d.header ahead ≡ file_rest bytes)))
  -- the same in other channels
  pub image_in : IfSome old (λ bytes. IfSome new (λ ahead. (channels : Channels) → front_image channels d.header ahead ≡ file_image_in channels bytes))
  -- the decoder is that of the bytes: for the field `file` of `HasDecoded`
  pub made : IfSome old (λ bytes. IsDecoderOf d bytes (drop header_size bytes))

-- The header of a stream was refused with the error e. How the stream is left isn't said.
pub record HasRefusedHeader (old : Option (List ℕ)) (e : Error) : Type 0 where
  -- `header_of` refuses the fourteen bytes at the front with e, or e is an i/o error
  pub why : (new : Option (List ℕ)) × TakesBytes old new (λ taken. RefusesTakenHeader taken e)
  -- a valid header is refused only for a fault of the reader
  pub fault : IfSome old (λ bytes. (h : Header) → header_of bytes ≡ Ok h → IsIoError e)

-- The decoder d decoded an image: `out` are its bytes.
pub record HasDecoded {R : Type 0} (d : DecoderState R) (old new : Option (List ℕ)) (out : List ℕ) : Type 0 where
  -- the image's chunks and the end marker were taken, and `out` are the bytes of its pixels
  pub reads : ReadsImage (channels_number d.header.channels) (channels_number d.channels) (pixel_count d.header) old new out
  -- the image is a function of the bytes, and so is what follows it
  pub image : IfSome old (λ bytes. (out ≡ front_image d.channels d.header bytes) × (new ≡ Some (front_rest d.header bytes)))
  -- nine bytes were taken at least: a loop over several images ends
  pub took : IfSome old (λ bytes. IfSome new (λ rest. length rest + 9 ≤ length bytes))
  -- the bytes are whole, and what follows the end marker is left
  pub rest : (bytes : List ℕ) → old ≡ Some bytes → (rest : List ℕ) × (new ≡ Some rest) × IsImage d.channels bytes d.header rest out
  -- so an image stands at their front, and the end marker behind it
  pub stands : IfSome old (λ bytes. StandsAhead d.header bytes)
  -- if the decoder was made from `source`, and its channels are the file's own, `source` begins with a
  -- file of this image
  pub file : (source ahead : List ℕ) → IsDecoderOf d source ahead → old ≡ Some ahead
      → (rest : List ℕ) × (new ≡ Some rest) × DecodesFile source d.header rest out
  -- in three channels it is the image in four without each fourth byte
  pub rgb : d.channels ≡ Rgb → IfSome old (λ bytes. out ≡ without_fourth (front_image Rgba d.header bytes))
  -- in four channels each fourth byte is 255 if the file has three
  pub opaque : d.channels ≡ Rgba → d.header.channels ≡ Rgb → (i : ℕ) → i < pixel_count d.header → slice_index out (4 * i + 3) ≡ 255
  -- so is the first one
  pub first_opaque : d.channels ≡ Rgba → d.header.channels ≡ Rgb → slice_index out 3 ≡ 255
  -- there are `required_buf_len` bytes
  pub size : HasImageLength (output_byte_count d) out
  -- for n pixels at most 5n + 8 bytes were taken
  pub within : TakesAtMost (chunk_max * pixel_count d.header + marker_size) old new
  -- there were as many bytes as n pixels need at least, one for 62
  pub enough : IfSome old (λ bytes. least_byte_count (pixel_count d.header) ≤ length bytes)
  -- the bytes weren't cut
  pub not_cut : (bytes : List ℕ) → old ≡ Some bytes → AreCut (pixel_count d.header) bytes → ⊥
  -- and they weren't wrong
  pub not_wrong : (bytes : List ℕ) → old ≡ Some bytes → AreWrong (pixel_count d.header) bytes → ⊥

-- The decoder d refused the bytes ahead with the error e.
pub record HasRefused {R : Type 0} (in_memory : Bool) (d : DecoderState R) (old new : Option (List ℕ)) (e : Error) : Type 0 where
  -- bytes in memory are cut or wrong, and nothing was taken; on a stream those that were taken are
  pub why : RefusesImage in_memory (pixel_count d.header) old new e
  -- whole bytes in memory aren't refused
  pub not_whole : IsTrue in_memory → (bytes rest : List ℕ) (cs : List Chunk) → old ≡ Some bytes → IsWhole (pixel_count d.header) bytes cs rest → ⊥
  -- an image that stands ahead is refused only for a fault of the reader
  pub fault : IfSome old (λ bytes. StandsAhead d.header bytes → IsReaderFault in_memory e)
  -- cut bytes: `UnexpectedBufferEnd` in memory, else `IoError`
  pub cut : (bytes : List ℕ) → old ≡ Some bytes → AreCut (pixel_count d.header) bytes → IsErrorOfCut in_memory e
  -- wrong bytes: `InvalidPadding`, or on a stream `IoError`
  pub wrong : (bytes : List ℕ) → old ≡ Some bytes → AreWrong (pixel_count d.header) bytes → IsErrorOfWrong in_memory e
  -- the other way round: bytes are refused with `UnexpectedBufferEnd` only if they are cut
  pub only_cut : (bytes : List ℕ) → old ≡ Some bytes → e ≡ UnexpectedBufferEnd → AreCut (pixel_count d.header) bytes
  -- and with `InvalidPadding` only if they are wrong
  pub only_wrong : (bytes : List ℕ) → old ≡ Some bytes → e ≡ InvalidPadding → AreWrong (pixel_count d.header) bytes
  -- for n pixels at most 5n + 8 bytes were taken
  pub within : TakesAtMost (chunk_max * pixel_count d.header + marker_size) old new

-- The bytes begin with a file with this header, and `out` are its raw bytes in its own channels.
pub record HasDecodedFile (bytes : List ℕ) (h : Header) (out : List ℕ) : Type 0 where
  -- the file is read from the bytes, and some rest follows it
  pub decodes : (rest : List ℕ) × DecodesFile bytes h rest out
  -- so one stands at their front
  pub begins : BeginsWithFile bytes
  -- header and image are functions of the bytes
  pub header : header_of bytes ≡ Ok h
  pub image : out ≡ file_image bytes
  -- they stay the same, whatever is appended; and that is left, too
  pub header_then : (more : List ℕ) → header_of (bytes ++ more) ≡ Ok h
  pub image_then : (more : List ℕ) → file_image (bytes ++ more) ≡ out
  pub rest_then : (more : List ℕ) → file_rest (bytes ++ more) ≡ file_rest bytes ++ more
  -- behind other bytes, the file is a tile
  pub put : (before after : List ℕ) → after ≡ before ++ bytes → HasTile after (length before) out
  -- and a picture with this header
  pub picture : (before after : List ℕ) → after ≡ before ++ bytes → HasPicture after (length before) h out
  -- there are `n_bytes` raw bytes
  pub size : HasImageLength (capped_byte_count h) out
  -- for each of the bytes at most so many pixels, and raw bytes
  pub per_byte : (pixel_count h ≤ run_max * length bytes) × (length out ≤ raw_per_byte * length bytes)
  -- what follows the header isn't cut
  pub not_cut : AreCut (pixel_count h) (drop header_size bytes) → ⊥
  -- nor wrong
  pub not_wrong : AreWrong (pixel_count h) (drop header_size bytes) → ⊥
  -- they aren't what an encoder made without its last byte: it follows from `not_part`
  pub not_without_last : (e : EncoderState) (whole : List ℕ) → MakesFile e whole → bytes ≡ take (length whole - 1) whole → ⊥
  -- nor a shorter part of it
  pub not_part : (e : EncoderState) (whole : List ℕ) (n : ℕ) → MakesFile e whole → bytes ≡ take n whole → n < length whole → ⊥

-- The bytes are refused with the error e.
pub record HasRefusedFile (bytes : List ℕ) (e : Error) : Type 0 where
  -- the header that they begin with is refused, or what follows it is cut or wrong
  pub why : RefusesFile bytes e
  -- no file stands at their front
  pub not_file : (h : Header) (cs : List Chunk) (rest : List ℕ) → IsFile h cs → bytes ≡ file h cs ++ rest → ⊥
  -- in one word
  pub not_begins : BeginsWithFile bytes → ⊥
  -- so they aren't the file of an image
  pub not_whole : (style : Style) (h : Header) (raw : List ℕ) → IsFileOf style h raw bytes → ⊥
  -- nor does one stand at their front
  pub not_front : (style : Style) (h : Header) (raw front rest : List ℕ) → IsFileOf style h raw front → bytes ≡ front ++ rest → ⊥
  -- cut bytes after a header: `UnexpectedBufferEnd`
  pub cut : (h : Header) → header_of bytes ≡ Ok h → AreCut (pixel_count h) (drop header_size bytes) → e ≡ UnexpectedBufferEnd
  -- wrong bytes after a header: `InvalidPadding`
  pub wrong : (h : Header) → header_of bytes ≡ Ok h → AreWrong (pixel_count h) (drop header_size bytes) → e ≡ InvalidPadding
