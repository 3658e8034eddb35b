-- Chunk lists that name an index position only if it holds a pixel of that position, and lists that
-- begin with an image.
use Rattle.std.specs.Prelude.{◌≡◌, List, [], ◌++◌}
use Rattle.qoi.specs.Qoi.{Chunk, Place, RgbaPixel, Past, seen, hash, AreChunks, meaning, Each}

-- an index position that is named holds a pixel whose position it is; so one where no pixel was put
-- is named only if it is position 0
abbrev pub NamesPixelThere : Past → Chunk → Type 0
NamesPixelThere past (Place i) = hash (seen past i) ≡ i
NamesPixelThere past _ = Unit {0}

-- this holds of each chunk of the list
abbrev pub Regular : List Chunk → Type 0
Regular cs = Each NamesPixelThere [] cs

-- chunks whose pixels are those of the image, and then perhaps others
abbrev pub Covers : List RgbaPixel → List Chunk → Type 0
Covers image cs = AreChunks cs × (more : List RgbaPixel) × (meaning cs ≡ image ++ more)
