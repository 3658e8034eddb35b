-- The texts that errors print.
use Rattle.std.specs.Prelude.{ℕ, List, ◌++◌, Option, Some, None, codes}
use Rattle.std.specs.Int.{w32, to_be_bytes}
use Rattle.std.specs.List.{join_by}
use Rattle.std.specs.Fmt.{decimal}
use Rattle.qoi.specs.Qoi.{Error, InvalidMagic, InvalidChannels, InvalidColorSpace, InvalidImageDimensions, InvalidImageLength, OutputBufferTooSmall, UnexpectedBufferEnd, InvalidPadding, IoError, OutOfMemory, magic_number}

-- width and height in pixels
abbrev pub size_text : ℕ → ℕ → List ℕ
size_text width height = decimal width ++ (codes "x" ++ decimal height)

-- the four bytes of a number, the highest one first, as a list in brackets
abbrev pub bytes_text : ℕ → List ℕ
bytes_text n = codes "[" ++ (join_by decimal (codes ", ") (to_be_bytes w32 n) ++ codes "]")

-- The text of an error, but for the words of an i/o error, which are the library's own.
abbrev pub printed : Error → Option (List ℕ)
printed (InvalidMagic n) =
    Some (codes "invalid magic: expected " ++ (decimal magic_number ++ (codes ", got " ++ bytes_text n)))
printed (InvalidChannels n) = Some (codes "invalid number of channels: " ++ decimal n)
printed (InvalidColorSpace n) = Some (codes "invalid color space: " ++ (decimal n ++ codes " (expected 0 or 1)"))
printed (InvalidImageDimensions width height) = Some (codes "invalid image dimensions: " ++ size_text width height)
printed (InvalidImageLength size width height) =
    Some (codes "invalid image length: " ++ (decimal size ++ (codes " bytes for " ++ size_text width height)))
printed (OutputBufferTooSmall size required) =
    Some (codes "output buffer size too small: " ++ (decimal size ++ (codes " (required: " ++ (decimal required ++ codes ")"))))
printed UnexpectedBufferEnd = Some (codes "unexpected input buffer end while decoding")
printed InvalidPadding = Some (codes "invalid padding (stream end marker mismatch)")
printed (IoError e) = None
printed OutOfMemory = Some (codes "out of memory")
