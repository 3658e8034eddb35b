-- Rows and rectangles of an image's raw bytes, for callers that cut them out and put them in. `top`,
-- `rows` and k count rows, all else counts bytes: `stride` is how many a row has, its pixels times its
-- channels.
use Rattle.std.specs.Prelude.{◌≡◌, ◌⊎◌, ℕ, zero, suc, ◌+◌, ◌*◌, ◌<◌, ◌≤◌, List, [], ◌++◌, length, take, drop, slice_index}
use Rattle.qoi.specs.Qoi.{Channels, Header, channels_number}

-- how many bytes a row of the image has in these channels
abbrev pub row_size : Channels → Header → ℕ
row_size channels h = h.width * channels_number channels

-- row k of the raw bytes
abbrev pub row_bytes : ℕ → List ℕ → ℕ → List ℕ
row_bytes stride raw k = take stride (drop (stride * k) raw)

-- of each of `rows` rows, from row `top` on, the `size` bytes from byte `left` on
abbrev pub rectangle : ℕ → ℕ → ℕ → ℕ → ℕ → List ℕ → List ℕ
rectangle stride top left zero size raw = []
rectangle stride top left (suc rows) size raw =
    rectangle stride top left rows size raw ++ take size (drop left (row_bytes stride raw (top + rows)))

-- byte j of row i isn't one of this rectangle
abbrev pub IsOutside : ℕ → ℕ → ℕ → ℕ → ℕ → ℕ → Type 0
IsOutside top left rows size i j = (i < top) ⊎ ((top + rows ≤ i) ⊎ ((j < left) ⊎ (left + size ≤ j)))

-- all bytes but those of this rectangle stay
pub record KeepsOutside (stride top left rows size : ℕ) (old new : List ℕ) : Type 0 where
  pub length_is : length new ≡ length old
  pub same : (i j : ℕ) → j < stride → IsOutside top left rows size i j → slice_index new (stride * i + j) ≡ slice_index old (stride * i + j)

-- the raw bytes with the rows of the raw bytes `tile` put into this rectangle, as many as it has
unfoldable pub with_tile : ℕ → ℕ → ℕ → ℕ → ℕ → List ℕ → List ℕ → List ℕ
with_tile stride top left zero size tile raw = raw
with_tile stride top left (suc rows) size tile raw =
    take (stride * (top + rows) + left) (with_tile stride top left rows size tile raw)
    ++ (row_bytes size tile rows ++ drop size (drop (stride * (top + rows) + left) (with_tile stride top left rows size tile raw)))
