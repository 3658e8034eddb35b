-- What a contract says of rows that are read and not handed out, or in part.
use Rattle.std.specs.Prelude.{◌≡◌, ℕ, ◌+◌, ◌*◌, ◌<◌, ◌≤◌, List, length, Option, Bool, IsTrue}
use Rattle.std.specs.Io.KnownBytes.{Keeps}
use Rattle.qoi.specs.Qoi.{Error}
use Rattle.qoi.specs.Rectangles.{row_size, rectangle}
use Rattle.qoi.specs.pieces.PixelReader.{PixelsState, unread_bytes, IfGiven, RefusesPiece, IsSpent}
use Rattle.qoi.specs.pieces.Copying.{rows_size, Gives}

-- The reader p was to give n raw bytes by several reads, and gave fewer: one of these reads was refused,
-- and left the reader q.
pub record StopsWithin {R : Type 0} (in_memory : Bool) (ahead : R → Option (List ℕ)) (n : ℕ) (p q : PixelsState R) : Type 0 where
  -- the reader as it stood before that read, behind these bytes
  pub was : PixelsState R
  pub more : List ℕ
  pub given : Gives ahead more p was
  pub fewer : length more < n
  pub before : unread_bytes was + length more ≡ unread_bytes p
  -- and as it stands behind that read
  pub spent : IsSpent q
  pub left : unread_bytes q ≡ unread_bytes was
  pub kept : IsTrue in_memory → Keeps (ahead was.reader) (ahead q.reader)

-- The same, with the error, which is one of the image.
pub record BreaksWithin {R : Type 0} (in_memory : Bool) (ahead : R → Option (List ℕ)) (n : ℕ) (p q : PixelsState R) (error : Error) : Type 0 where
  pub within : StopsWithin in_memory ahead n p q
  pub refused : IfGiven ahead p (λ d start given. RefusesPiece in_memory d start given n (ahead q.reader) error)

-- Of each of so many rows the `size` bytes from byte `left` on can be read into `room` bytes: they lie within
-- a row, the rows are left, and the bytes have room.
abbrev pub HasRectangle : {R : Type 0} → PixelsState R → ℕ → ℕ → ℕ → ℕ → Type 0
HasRectangle p left rows size room = (left + size ≤ row_size p.channels p.header) × (rows_size p rows ≤ unread_bytes p) × (size * rows ≤ room)

-- the reader gave so many rows, and `out` are these parts of them
abbrev pub GivesRectangle : {R : Type 0} → (R → Option (List ℕ)) → ℕ → ℕ → ℕ → PixelsState R → PixelsState R → List ℕ → Type 0
GivesRectangle ahead left rows size p q out = (more : List ℕ) × Gives ahead more p q × (length more ≡ rows_size p rows)
    × (out ≡ rectangle (row_size p.channels p.header) 0 left rows size more)
