-- The answer of the program to its words and to the bytes of its input.
use Rattle.std.specs.Prelude.{◌≡◌, ℕ, ◌⊎◌, List, Option, drop, Ok, Err}
use Rattle.std.specs.Io.KnownBytes.{Appends, Keeps}
use Rattle.qoi.specs.declared.error.Error.{Error}
use Rattle.qoi.specs.declared.header.Header.{Header}
use Rattle.qoi.specs.Qoi.{header_of, header_size}
use Rattle.qoi.specs.Decoding.{DecodesFile, RefusesFile}
use Rattle.qoi.specs.Reading.{IsImage}
use Rattle.qoi.specs.Encoded.{image_header, IsFileOf}
use Rattle.qoi_tool.specs.declared.command.Command.{Command}
use Rattle.qoi_tool.specs.declared.command.Command.TheVariants.{Decode, DecodeInto, Encode, Info}
use Rattle.qoi_tool.specs.declared.Fault.{Fault}
use Rattle.qoi_tool.specs.declared.Fault.TheVariants.{Usage, Image}
use Rattle.qoi_tool.specs.Lines.{header_line}
use Rattle.qoi_tool.specs.Words.{Asks, IsUsage}
use Rattle.qoi_tool.specs.Transfers.{TakesAll, TakesCount, TakesFewer, IsIoOrMemory}
use Rattle.qoi.specs.Errors.{IsIoError}
use Rattle.qoi.specs.Writers.{AppendsBeginning}

-- what a command takes of its input: the bytes of a header, or all
abbrev pub Takes : Command → Option (List ℕ) → Option (List ℕ) → List ℕ → Type 0
Takes Decode old new input = TakesAll old new input
Takes (DecodeInto channels) old new input = TakesAll old new input
Takes (Encode w h space style) old new input = TakesAll old new input
Takes Info old new input = TakesCount header_size old new input

-- what a command writes for an input
abbrev pub Writes : Command → List ℕ → List ℕ → Type 0
Writes Decode input out = (h : Header) × (rest : List ℕ) × DecodesFile input h rest out
Writes (DecodeInto channels) input out = (h : Header) × (rest : List ℕ) × (header_of input ≡ Ok h)
    × IsImage channels (drop header_size input) h rest out
Writes (Encode width height space style) input out = (h : Header) × (image_header input width height ≡ Ok h)
    × IsFileOf style (record h { colorspace = space }) input out
Writes Info input out = (h : Header) × (header_of input ≡ Ok h) × (out ≡ header_line h)

-- why the library refuses an input
abbrev pub Refuses : Command → List ℕ → Error → Type 0
Refuses Decode input e = RefusesFile input e
Refuses (DecodeInto channels) input e = RefusesFile input e
Refuses (Encode width height space style) input e = image_header input width height ≡ Err e
Refuses Info input e = header_of input ≡ Err e

-- how a command that the library doesn't refuse stops: by an i/o error or for want of memory;
-- `info`, which asks for no memory, by an i/o error after fewer bytes than a header has
abbrev pub StopsEarly : Command → Option (List ℕ) → Option (List ℕ) → Error → Type 0
StopsEarly Decode old new e = IsIoOrMemory e
StopsEarly (DecodeInto channels) old new e = IsIoOrMemory e
StopsEarly (Encode w h space style) old new e = IsIoOrMemory e
StopsEarly Info old new e = IsIoError e × TakesFewer header_size old new

-- the input was taken, and the command's answer was written
abbrev pub Does : Command → Option (List ℕ) → Option (List ℕ) → Option (List ℕ) → Option (List ℕ) → Type 0
Does command in_old in_new out_old out_new =
    (input : List ℕ) × (out : List ℕ) × Takes command in_old in_new input × Writes command input out × Appends out_old out_new out

-- what the words ask for was done
abbrev pub Finishes : List (List ℕ) → Option (List ℕ) → Option (List ℕ) → Option (List ℕ) → Option (List ℕ) → Type 0
Finishes words in_old in_new out_old out_new = (command : Command) × Asks words command × Does command in_old in_new out_old out_new

-- The input was taken and the library refused it, and nothing was written; or an i/o error or want
-- of memory came, and nothing was written; or writing stopped by an i/o error, and a beginning of
-- the answer was written.
abbrev pub Stops : Command → Option (List ℕ) → Option (List ℕ) → Option (List ℕ) → Option (List ℕ) → Error → Type 0
Stops command in_old in_new out_old out_new e =
    ((input : List ℕ) × Takes command in_old in_new input × Refuses command input e × Keeps out_old out_new)
    ⊎ ((StopsEarly command in_old in_new e × Keeps out_old out_new)
    ⊎ (IsIoError e × ((input : List ℕ) × (out : List ℕ) × Takes command in_old in_new input × Writes command input out × AppendsBeginning out_old out_new out)))

-- Why the words weren't answered: they ask for no command, and nothing was read or written; or the
-- command that they ask for stopped.
abbrev pub StopsAt : List (List ℕ) → Option (List ℕ) → Option (List ℕ) → Option (List ℕ) → Option (List ℕ) → Fault → Type 0
StopsAt words in_old in_new out_old out_new Usage = IsUsage words × Keeps in_old in_new × Keeps out_old out_new
StopsAt words in_old in_new out_old out_new (Image e) = (command : Command) × Asks words command × Stops command in_old in_new out_old out_new e
