-- The line that tells what a header says.
use Rattle.std.specs.Prelude.{ℕ, List, [], ◌∷◌, ◌++◌, codes}
use Rattle.std.specs.Fmt.{decimal}
use Rattle.qoi.specs.declared.types.ColorSpace.{ColorSpace}
use Rattle.qoi.specs.declared.types.ColorSpace.TheVariants.{Srgb, Linear}
use Rattle.qoi.specs.declared.header.Header.{Header}
use Rattle.qoi.specs.Qoi.{channels_number}

-- the name of a color space
abbrev pub space_name : ColorSpace → List ℕ
space_name Srgb = codes "srgb"
space_name Linear = codes "linear"

-- width, height, channels and color space, and a line feed
abbrev pub header_line : Header → List ℕ
header_line h =
    decimal h.width ++ (codes "x" ++ (decimal h.height ++ (codes " channels " ++ (decimal (channels_number h.channels)
    ++ (codes " colorspace " ++ (space_name h.colorspace ++ (10 ∷ [])))))))
