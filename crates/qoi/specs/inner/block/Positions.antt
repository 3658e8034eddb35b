-- Pixels that are put at their index positions, one after the other, and which of them stood there.
use Rattle.std.specs.Prelude.{◌≡◌, ℕ, Bool, List, [], ◌∷◌, ◌++◌, map, reverse}
use lib.Lanes.{zip2}
use Rattle.qoi.specs.Qoi.{RgbaPixel, IsPixel, Past, seen, hash, pixel_eq}
use Rattle.qoi.specs.inner.Packed.{word}
use Rattle.qoi.specs.inner.block.Lanes.{mask}
use Rattle.qoi.specs.inner.block.Planes.{AreFourWords}
use Rattle.qoi.specs.inner.Table.{Holds}

-- what is seen at each pixel's index position when it is put
abbrev pub seen_before : Past → List RgbaPixel → List RgbaPixel
seen_before held [] = []
seen_before held (p ∷ ps) = seen held (hash p) ∷ seen_before (p ∷ held) ps

-- whether each stands at its index position when it is put
abbrev pub stand_tests : Past → List RgbaPixel → List Bool
stand_tests held ps = zip2 pixel_eq (seen_before held ps) ps

-- each four times, as a byte
abbrev pub four_times : List Bool → List ℕ
four_times [] = []
four_times (b ∷ bs) = mask b ∷ mask b ∷ mask b ∷ mask b ∷ four_times bs

-- one pixel was put: what was found, and what the table holds then
pub record HasPutOne (held : Past) (p : RgbaPixel) (found : ℕ) (table : List RgbaPixel) : Type 0 where
  pub found_is : found ≡ word (seen held (hash p))
  pub is : IsPixel (seen held (hash p))
  pub holds : Holds table (p ∷ held)

-- four pixels were put: what was found, and what the table holds then
pub record HasPut (held : Past) (ps : List RgbaPixel) (found : List ℕ) (table : List RgbaPixel) : Type 0 where
  pub found_are : AreFourWords (seen_before held ps) found
  pub holds : Holds table (reverse ps ++ held)

-- sixteen pixels were put: which of them stood there, and what the table holds then
pub record HasPutBlock (held : Past) (ps : List RgbaPixel) (stands : List ℕ) (table : List RgbaPixel) : Type 0 where
  pub stands_are : stands ≡ map mask (stand_tests held ps)
  pub holds : Holds table (reverse ps ++ held)
