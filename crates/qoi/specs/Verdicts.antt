-- The verdict on the bytes after a header, for an image of n pixels: exactly one of whole, cut and
-- wrong (QOI specification 1.0, "File Format" and "Data").
use Rattle.std.specs.Prelude.{◌≡◌, ◌≢◌, ℕ, ◌<◌, ◌≤◌, ◌⊎◌, List, ◌∷◌, ◌++◌, length}
use Rattle.qoi.specs.Qoi.{Chunk, IsChunk, AreChunks, bytes_of, chunk_bytes, StayBelow, meaning, marker_size, end_marker}

-- a beginning of a chunk's bytes, at least one byte short of the whole; it may be empty
abbrev pub IsPartOfChunk : List ℕ → Type 0
IsPartOfChunk bytes = (c : Chunk) × (next : ℕ) × (more : List ℕ) × IsChunk c × (bytes_of c ≡ bytes ++ next ∷ more)

-- the bytes are those of the chunks, each with fewer than n pixels before it, and then the rest
pub record HasChunks (n : ℕ) (bytes : List ℕ) (cs : List Chunk) (rest : List ℕ) : Type 0 where
  pub chunks : AreChunks cs
  pub stays_below : StayBelow n cs
  pub split : bytes ≡ chunk_bytes cs ++ rest

-- whole: the chunks reach n pixels, and the end marker follows, and then any bytes
pub record IsWhole (n : ℕ) (bytes : List ℕ) (cs : List Chunk) (rest : List ℕ) : Type 0 where
  pub has : HasChunks n bytes cs (end_marker ++ rest)
  pub enough : n ≤ length (meaning cs)

-- cut: the chunks give fewer than n pixels, and only a part of a chunk follows, perhaps none of it;
-- or they reach n pixels, and fewer than eight bytes follow
pub record IsCut (n : ℕ) (bytes : List ℕ) (cs : List Chunk) (part : List ℕ) : Type 0 where
  pub has : HasChunks n bytes cs part
  pub ends : ((length (meaning cs) < n) × IsPartOfChunk part) ⊎ ((n ≤ length (meaning cs)) × (length part < marker_size))

-- wrong: the chunks reach n pixels, and eight bytes other than the end marker follow, and then the rest
pub record IsWrong (n : ℕ) (bytes : List ℕ) (cs : List Chunk) (eight rest : List ℕ) : Type 0 where
  pub has : HasChunks n bytes cs (eight ++ rest)
  pub enough : n ≤ length (meaning cs)
  pub length_is : length eight ≡ marker_size
  pub other : eight ≢ end_marker

-- the bytes are cut: they end before n pixels, or within the eight bytes after them
abbrev pub AreCut : ℕ → List ℕ → Type 0
AreCut n bytes = (cs : List Chunk) × (part : List ℕ) × IsCut n bytes cs part

-- the bytes are wrong, and the rest follows the eight that aren't the end marker
abbrev pub AreWrongThen : ℕ → List ℕ → List ℕ → Type 0
AreWrongThen n bytes rest = (cs : List Chunk) × (eight : List ℕ) × IsWrong n bytes cs eight rest

-- the bytes are wrong, whatever follows the eight
abbrev pub AreWrong : ℕ → List ℕ → Type 0
AreWrong n bytes = (rest : List ℕ) × AreWrongThen n bytes rest
