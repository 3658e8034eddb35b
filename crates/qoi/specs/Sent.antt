-- What an encoding call promises: the one file of the encoder's image was made, put into a buffer,
-- or sent to a writer. A record's meaning is its fields up to `same` (`HasFileLength`), `file`
-- (`MakesFile`), `new_is` (`PutsFile`), `sent` (`SendsFile`, `SendsPart`), all (`SendsSomeFile`)
-- and `makes` (`IsFileFor`). The other fields follow from these; callers need them at hand.
use Rattle.std.specs.Prelude.{◌≡◌, ℕ, ◌≤◌, List, ◌++◌, take, drop, length, slice_set, Option, Some, IfSome, Result, Ok}
use Rattle.qoi.specs.Styles.{Style, Reference, Places, Tight}
use Rattle.qoi.specs.Qoi.{Error, ColorSpace, Srgb, Header, header_of, AreBytes, IsValid, colorspace_at, colorspace_number}
use Rattle.qoi.specs.Encoded.{image_file, image_header, IsFileLength, IsFileOf, IsShortest}
use Rattle.qoi.specs.Images.{file_image}
use Rattle.qoi.specs.Raw.{image_byte_count}
use Rattle.qoi.specs.EncoderState.{EncoderState, free_encoder}
use Rattle.qoi.specs.Tiles.{HasTile, HasPicture}
use Rattle.qoi.specs.Writers.{AppendsBeginning}
use Rattle.std.specs.Io.KnownBytes.{Appends}

-- The encoder's file has n bytes.
pub record HasFileLength (e : EncoderState) (n : ℕ) : Type 0 where
  -- so has each file of the image in this style
  pub same : (bytes : List ℕ) → IsFileOf e.style e.header e.raw bytes → n ≡ length bytes
  -- there are 23 at least, and at most `encode_max_len`
  pub within : IsFileLength e.header n
  -- in style Tight no list of chunks of the image, regular or not, makes a shorter file
  pub shortest : e.style ≡ Tight → IsShortest e.header e.raw n
  -- so it is no longer than in any other style
  pub no_longer : e.style ≡ Tight → (style : Style) (bytes : List ℕ) → IsFileOf style e.header e.raw bytes → n ≤ length bytes
  -- in style Places it is as long as in Reference
  pub as_long : e.style ≡ Places → (bytes : List ℕ) → IsFileOf Reference e.header e.raw bytes → n ≡ length bytes

-- The encoder makes this file.
pub record MakesFile (e : EncoderState) (bytes : List ℕ) : Type 0 where
  -- the bytes are the file of the image
  pub file : IsFileOf e.style e.header e.raw bytes
  -- as a function of the image, for callers' own contracts
  pub is : bytes ≡ image_file e.style e.header e.raw
  -- how many they are
  pub counts : HasFileLength e (length bytes)
  -- with another color space the file has another fourteenth byte, and is otherwise the same
  pub space : (space : ColorSpace) (others : List ℕ) → IsFileOf e.style (record e.header { colorspace = space }) e.raw others
      → others ≡ slice_set bytes colorspace_at (colorspace_number space)
  -- so it has as many bytes
  pub as_many : (space : ColorSpace) (others : List ℕ) → IsFileOf e.style (record e.header { colorspace = space }) e.raw others
      → length others ≡ length bytes

-- The encoder puts its file into the front of a buffer, where it has n bytes.
pub record PutsFile (e : EncoderState) (old new : List ℕ) (n : ℕ) : Type 0 where
  pub bytes : List ℕ
  -- these are the file of the image
  pub file : IsFileOf e.style e.header e.raw bytes
  -- n is their number
  pub count : n ≡ length bytes
  -- they stand at the front, and later bytes stay
  pub new_is : new ≡ bytes ++ drop n old
  -- as a function of the image
  pub is : bytes ≡ image_file e.style e.header e.raw
  -- they fit into the buffer
  pub room : n ≤ length old
  -- the part of the buffer that was written is the file
  pub front : IsFileOf e.style e.header e.raw (take n new)
  -- how many bytes the file has
  pub counts : HasFileLength e n

-- The encoder sends its file, which has n bytes, to a writer.
pub record SendsFile (e : EncoderState) (old new : Option (List ℕ)) (n : ℕ) : Type 0 where
  pub bytes : List ℕ
  -- these are the file of the image
  pub file : IsFileOf e.style e.header e.raw bytes
  -- n is their number
  pub count : n ≡ length bytes
  -- they were appended to the writer's bytes, if those are known
  pub sent : Appends old new bytes
  -- as a function of the image
  pub is : bytes ≡ image_file e.style e.header e.raw
  -- how many bytes the file has
  pub counts : HasFileLength e n
  -- so the image, these raw bytes, is read from where it was put
  pub image : (raw before : List ℕ) → raw ≡ e.raw → old ≡ Some before → IfSome new (λ after. file_image (drop (length before) after) ≡ raw)
  -- the writer's bytes before it stay
  pub stay : (before : List ℕ) → old ≡ Some before → IfSome new (λ after. take (length before) after ≡ before)
  -- it is a tile at their end
  pub put : (before after : List ℕ) → old ≡ Some before → new ≡ Some after → HasTile after (length before) e.raw
  -- and tiles before it stay
  pub kept : IfSome old (λ before. IfSome new (λ after. (offset : ℕ) (tile : List ℕ) → HasTile before offset tile → HasTile after offset tile))
  -- the same with headers: the encoder's is read from where the file was put
  pub header : (head : Result Header Error) (before : List ℕ) → head ≡ Ok e.header → old ≡ Some before
      → IfSome new (λ after. header_of (drop (length before) after) ≡ head)
  -- the file is a picture there
  pub picture : (before after : List ℕ) → old ≡ Some before → new ≡ Some after → HasPicture after (length before) e.header e.raw
  -- and pictures before it stay
  pub pictures : IfSome old (λ before. IfSome new (λ after. (offset : ℕ) (h : Header) (raw : List ℕ) → HasPicture before offset h raw
      → HasPicture after offset h raw))

-- The file of some image with this header, which is valid, in this style, was sent to a writer: of raw
-- bytes that the contract doesn't tell, of the right number.
pub record SendsSomeFile (style : Style) (h : Header) (old new : Option (List ℕ)) : Type 0 where
  pub raw : List ℕ
  pub valid : IsValid h
  pub size : length raw ≡ image_byte_count h
  pub are : AreBytes raw
  pub sent : Appends old new (image_file style h raw)

-- The encoder sends a beginning of its file to a writer.
pub record SendsPart (e : EncoderState) (old new : Option (List ℕ)) : Type 0 where
  pub bytes : List ℕ
  -- these are the file of the image
  pub file : IsFileOf e.style e.header e.raw bytes
  -- a beginning of them was appended to the writer's bytes, if those are known
  pub sent : AppendsBeginning old new bytes
  -- so was the same beginning of what any other call made, put or sent
  pub same : (others : List ℕ) → IsFileOf e.style e.header e.raw others → AppendsBeginning old new others

-- The free calls make this file of raw bytes of this size.
pub record IsFileFor (raw : List ℕ) (width height : ℕ) (bytes : List ℕ) : Type 0 where
  pub header : Header
  -- it has the header that is found for them
  pub accepted : image_header raw width height ≡ Ok header
  -- the file is that of an encoder with this header
  pub makes : MakesFile (free_encoder header raw) bytes
  -- the header has the given size, and color space Srgb
  pub header_is : header ≡ record { width = width; height = height; channels = header.channels; colorspace = Srgb }
