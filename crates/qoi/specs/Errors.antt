-- Kinds of error, and what may refuse bytes by their verdict. The truth value says whether the
-- bytes are in memory.
use Rattle.std.specs.Prelude.{◌≡◌, ◌⊎◌, Bool, true, false}
use Rattle.qoi.specs.Qoi.{Error, UnexpectedBufferEnd, InvalidPadding, IoError}

-- an i/o error: a fault of the reader or the writer, an early end, or a write that took no byte
abbrev pub IsIoError : Error → Type 0
IsIoError (IoError e) = Unit {0}
IsIoError _ = ⊥

-- what may refuse an image that stands ahead: nothing in memory, and an i/o error on a stream
abbrev pub IsReaderFault : Bool → Error → Type 0
IsReaderFault true e = ⊥
IsReaderFault false e = IsIoError e

-- the error of cut bytes: UnexpectedBufferEnd in memory, and an i/o error on a stream
abbrev pub IsErrorOfCut : Bool → Error → Type 0
IsErrorOfCut true e = e ≡ UnexpectedBufferEnd
IsErrorOfCut false e = IsIoError e

-- the error of wrong bytes: InvalidPadding in memory, and that or an i/o error on a stream
abbrev pub IsErrorOfWrong : Bool → Error → Type 0
IsErrorOfWrong true e = e ≡ InvalidPadding
IsErrorOfWrong false e = (e ≡ InvalidPadding) ⊎ IsIoError e
