-- Words of callers on the raw bytes of pictures.
use Rattle.std.specs.Prelude.{◌≡◌, ◌≢◌, ℕ, zero, suc, ◌-◌, List, [], ◌++◌, take, slice_index}
use Rattle.qoi.specs.declared.header.Header.{Header}
use Rattle.qoi.specs.Rectangles.{row_bytes}

-- byte k of one isn't that of the other, and the bytes before it are the same
abbrev pub DiffersAt : List ℕ → List ℕ → ℕ → Type 0
DiffersAt one other k = (take k one ≡ take k other) × (slice_index one k ≢ slice_index other k)

-- images of these headers have as many rows, pixels in each, and channels
abbrev pub HaveOneShape : Header → Header → Type 0
HaveOneShape h k = (h.width ≡ k.width) × (h.height ≡ k.height) × (h.channels ≡ k.channels)

-- the last n of a picture's rows, the last one first
abbrev pub from_below : ℕ → ℕ → List ℕ → ℕ → List ℕ
from_below stride height raw zero = []
from_below stride height raw (suc n) = from_below stride height raw n ++ row_bytes stride raw (height - 1 - n)
