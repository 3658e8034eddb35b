-- What reading all or part of an input does to the bytes that are known.
use Rattle.std.specs.Prelude.{◌≡◌, ℕ, ◌<◌, List, length, Option}
use Rattle.std.specs.Io.KnownBytes.{Consumes, IsAtEnd}
use Rattle.qoi.specs.declared.error.Error.{Error}
use Rattle.qoi.specs.declared.error.Error.TheVariants.{IoError, OutOfMemory}

-- these bytes were taken, and none is left
abbrev pub TakesAll : Option (List ℕ) → Option (List ℕ) → List ℕ → Type 0
TakesAll old new bytes = Consumes old new bytes × IsAtEnd new

-- these bytes were taken, `count` of them
abbrev pub TakesCount : ℕ → Option (List ℕ) → Option (List ℕ) → List ℕ → Type 0
TakesCount count old new bytes = Consumes old new bytes × (length bytes ≡ count)

-- fewer than `count` bytes were taken
abbrev pub TakesFewer : ℕ → Option (List ℕ) → Option (List ℕ) → Type 0
TakesFewer count old new = (taken : List ℕ) × Consumes old new taken × (length taken < count)

-- an i/o error, or want of memory
abbrev pub IsIoOrMemory : Error → Type 0
IsIoOrMemory (IoError e) = Unit {0}
IsIoOrMemory OutOfMemory = Unit {0}
IsIoOrMemory _ = ⊥
