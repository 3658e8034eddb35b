-- Files at offsets of longer bytes, as in an atlas or a store of frames. They may come from anywhere.
use Rattle.std.specs.Prelude.{◌≡◌, ℕ, List, [], ◌∷◌, ◌++◌, length, drop, Ok}
use Rattle.qoi.specs.Qoi.{Header, Chunk, IsFile, file, header_of}
use Rattle.qoi.specs.Decoding.{DecodesFile}
use Rattle.qoi.specs.Images.{file_image, BeginsWithFile}

-- at this offset of the bytes stands a file of an image with these raw bytes
pub record HasTile (bytes : List ℕ) (offset : ℕ) (raw : List ℕ) : Type 0 where
  pub header : Header
  pub rest : List ℕ
  pub decodes : DecodesFile (drop offset bytes) header rest raw
  -- so its image is read there
  pub image : file_image (drop offset bytes) ≡ raw

-- at this offset of the bytes stands a file with this header, of an image with these raw bytes
pub record HasPicture (bytes : List ℕ) (offset : ℕ) (h : Header) (raw : List ℕ) : Type 0 where
  pub rest : List ℕ
  pub decodes : DecodesFile (drop offset bytes) h rest raw
  -- so it is a tile
  pub tile : HasTile bytes offset raw
  -- header and image are read there
  pub header : header_of (drop offset bytes) ≡ Ok h
  pub image : file_image (drop offset bytes) ≡ raw
  -- and the file stands there
  pub stands : BeginsWithFile (drop offset bytes)

-- The bytes are files, one right behind the other from the first byte to the last. These are their
-- offsets, and the raw bytes of their images.
pub data AreFrames : List ℕ → List ℕ → List (List ℕ) → Type 0 where
  none : AreFrames [] [] []
  more : (bytes offsets : List ℕ) (images : List (List ℕ)) (h : Header) (cs : List Chunk) → AreFrames bytes offsets images → IsFile h cs
      → AreFrames (bytes ++ file h cs) (offsets ++ length bytes ∷ []) (images ++ file_image (file h cs) ∷ [])

-- The same with the header of each.
pub data ArePictures : List ℕ → List ℕ → List Header → List (List ℕ) → Type 0 where
  no_picture : ArePictures [] [] [] []
  one_more : (bytes offsets : List ℕ) (headers : List Header) (images : List (List ℕ)) (h : Header) (cs : List Chunk)
      → ArePictures bytes offsets headers images → IsFile h cs
      → ArePictures (bytes ++ file h cs) (offsets ++ length bytes ∷ []) (headers ++ h ∷ []) (images ++ file_image (file h cs) ∷ [])
