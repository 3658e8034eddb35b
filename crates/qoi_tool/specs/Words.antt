-- The words of the commands, each as the bytes of its text (`string_bytes`).
use Rattle.std.specs.Prelude.{◌≡◌, ℕ, ◌≤◌, List, [], ◌∷◌, ◌++◌, codes}
use Rattle.std.specs.Str.Parse.{IsNumeral, digits_value}
use Rattle.qoi.specs.declared.types.Channels.{Channels}
use Rattle.qoi.specs.declared.types.Channels.TheVariants.{Rgb, Rgba}
use Rattle.qoi.specs.declared.types.ColorSpace.{ColorSpace}
use Rattle.qoi.specs.declared.types.ColorSpace.TheVariants.{Srgb, Linear}
use Rattle.qoi.specs.declared.types.Style.{Style}
use Rattle.qoi.specs.declared.types.Style.TheVariants.{Reference, Places, Tight}
use Rattle.qoi_tool.specs.declared.command.Command.{Command}
use Rattle.qoi_tool.specs.declared.command.Command.TheVariants.{Decode, DecodeInto, Encode, Info}

-- one digit or more in base ten, whose value is this number of 32 bits
abbrev pub IsSide : List ℕ → ℕ → Type 0
IsSide word n = IsNumeral 10 word × (digits_value 10 word ≡ n) × (n ≤ 4294967295)

-- the word of channels
abbrev pub channels_word : Channels → List ℕ
channels_word Rgb = codes "rgb"
channels_word Rgba = codes "rgba"

-- the words of a color space, after the sides
abbrev pub space_words : ColorSpace → List (List ℕ)
space_words Srgb = []
space_words Linear = codes "linear" ∷ []

-- the words of a style, after those of the color space
abbrev pub style_words : Style → List (List ℕ)
style_words Reference = []
style_words Places = codes "places" ∷ []
style_words Tight = codes "tight" ∷ []

-- the words ask for the command
abbrev pub Asks : List (List ℕ) → Command → Type 0
Asks words Decode = words ≡ codes "dec" ∷ []
Asks words (DecodeInto channels) = words ≡ codes "dec" ∷ channels_word channels ∷ []
Asks words (Encode w h space style) = (width : List ℕ) × (height : List ℕ)
    × (words ≡ codes "enc" ∷ width ∷ height ∷ space_words space ++ style_words style) × IsSide width w × IsSide height h
Asks words Info = words ≡ codes "info" ∷ []

-- the words ask for no command
abbrev pub IsUsage : List (List ℕ) → Type 0
IsUsage words = (command : Command) → Asks words command → ⊥
