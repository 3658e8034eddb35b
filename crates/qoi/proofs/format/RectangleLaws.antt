-- Rows and rectangles of raw bytes: what they hold, how they are put together, and what is put in.
use Rattle.std.proofs.Common.{add-one, ◌≡◌, ◌<◌, ◌≤◌, ◌+◌, ◌-◌, ◌*◌, ◌/◌, ◌%◌, ◌⊎◌, ℕ, zero, suc, List, ◌++◌, length, take, drop, get_or, inl, refl, sym, subst, ◌∙◌, ap, arith, take-add}
use Rattle.std.proofs.lemmas.List.{ext_get_or, append_assoc, append-nil, length-append, length-drop, length-take, take-append-drop, drop-drop, drop-take, take-take, take_all, take_at, drop_at, take-append-le, drop-append-le, get_or-take, get_or-drop}
use Rattle.std.proofs.Math.Nat.{add-suc, add-zero, div-add-mod, mod-lt, mul-add, mul-suc, mul-zero, mul_comm, zero-mul, zero-add}
use Rattle.std.proofs.lemmas.Grind.{common_steps}
use Rattle.std.proofs.lemmas.Nat.{mul-le, row_fits, row-Below}
use Rattle.qoi.specs.Rectangles.{row_bytes, rectangle, with_tile, KeepsOutside}

-- one row more ends within the rows
pub row_end : (stride k rows : ℕ) → k < rows → stride * k + stride ≤ stride * rows
row_end stride k rows below =
    omega (arith, row_fits k stride rows stride below (omega arith), mul_comm stride k, mul_comm stride rows)

-- a part of a part of bytes is a part of them
pub part_of_part : (left size l s : ℕ) (row : List ℕ) → l + s ≤ size → take s (drop l (take size (drop left row))) ≡ take s (drop (left + l) row)
part_of_part left size l s row fits = grind (arith, common_steps, drop-take l (size - l) (drop left row), drop-drop l left row, fits)

-- the part of a row stands in the raw bytes
pub part_stands : (stride left size k : ℕ) (raw : List ℕ) → left + size ≤ stride
    → take size (drop left (row_bytes stride raw k)) ≡ take size (drop (stride * k + left) raw)
part_stands stride left size k raw fits =
    part_of_part (stride * k) stride left size raw fits

-- it has `size` bytes
pub length-part : (stride left size k : ℕ) (raw : List ℕ) → left + size ≤ stride → stride * k + stride ≤ length raw
    → length (take size (drop left (row_bytes stride raw k))) ≡ size
length-part stride left size k raw fits inside =
    omega (arith, ap length (part_stands stride left size k raw fits), length-take size (drop (stride * k + left) raw), length-drop (stride * k + left) raw)

-- one row more
pub row_more : (stride top left rows size : ℕ) (raw : List ℕ)
    → rectangle stride top left (rows + 1) size raw ≡ rectangle stride top left rows size raw ++ take size (drop left (row_bytes stride raw (top + rows)))
row_more stride top left rows size raw = rw add-one

-- the rows from `top` on, of those that came: row k is kept
pub row_kept : (stride top left size k : ℕ) (raw : List ℕ) → top ≤ k
    → rectangle stride top left (k + 1 - top) size raw ≡ rectangle stride top left (k - top) size raw ++ take size (drop left (row_bytes stride raw k))
row_kept stride top left size k raw below =
    let up : k + 1 - top ≡ k - top + 1 = omega (arith, below) in
    let at : top + (k - top) ≡ k = omega (arith, below) in
    rw (up, row_more stride top left (k - top) size raw, at)

-- or it comes before them
pub row_skipped : (stride top left size k : ℕ) (raw : List ℕ) → k < top
    → rectangle stride top left (k + 1 - top) size raw ≡ rectangle stride top left (k - top) size raw
row_skipped stride top left size k raw before = let same : k + 1 - top ≡ k - top = omega (arith, before) in rw same

-- rows follow one another
pub rows_follow : (stride top left m n size : ℕ) (raw : List ℕ)
    → rectangle stride top left (m + n) size raw ≡ rectangle stride top left m size raw ++ rectangle stride (top + m) left n size raw
rows_follow stride top left m zero size raw = rw (add-zero, append-nil)
rows_follow stride top left m (suc n) size raw =
    let next : top + (m + n) ≡ top + m + n = omega arith in
    rw (add-suc m n, rows_follow stride top left m n size raw, append_assoc, next)

-- a rectangle of one row is the part of that row
pub one_row : (stride top left size : ℕ) (raw : List ℕ) → rectangle stride top left 1 size raw ≡ take size (drop left (row_bytes stride raw top))
one_row stride top left size raw = rw add-zero

-- a rectangle that lies within the rows has `size` bytes of each
pub length-rectangle : (stride top left rows size : ℕ) (raw : List ℕ) → left + size ≤ stride → stride * (top + rows) ≤ length raw
    → length (rectangle stride top left rows size raw) ≡ size * rows
length-rectangle stride top left zero size raw fits inside = omega arith
length-rectangle stride top left (suc rows) size raw fits inside =
    let below = row_end stride (top + rows) (top + suc rows) (omega arith) in
    let before = length-rectangle stride top left rows size raw fits (omega (arith, inside, below)) in
    let last = length-part stride left size (top + rows) raw fits (omega (arith, inside, below)) in
    let both = length-append (rectangle stride top left rows size raw) (take size (drop left (row_bytes stride raw (top + rows)))) in
    omega (arith, before, last, both, mul-suc size rows)

-- a rectangle that lies within a picture of so many rows, too
pub length-part_of_picture : (stride height top left rows size : ℕ) (raw : List ℕ) → length raw ≡ stride * height → top + rows ≤ height → left + size ≤ stride
    → length (rectangle stride top left rows size raw) ≡ size * rows
length-part_of_picture stride height top left rows size raw many below fits =
    length-rectangle stride top left rows size raw fits (omega (arith, many, mul-le stride (top + rows) stride height (omega arith) below))

-- whole rows are one stretch of the raw bytes
pub whole_rows : (stride top rows : ℕ) (raw : List ℕ) → rectangle stride top 0 rows stride raw ≡ take (stride * rows) (drop (stride * top) raw)
whole_rows stride top zero raw = ap (λ n. take n (drop (stride * top) raw)) (sym (mul-zero stride))
whole_rows stride top (suc rows) raw = next (whole_rows stride top rows raw)
  where
    next : rectangle stride top 0 rows stride raw ≡ take (stride * rows) (drop (stride * top) raw)
        → rectangle stride top 0 (suc rows) stride raw ≡ take (stride * suc rows) (drop (stride * top) raw)
    next before = grind (arith, common_steps, before, mul-add stride top rows, mul-suc stride rows, take-add (stride * rows) stride (drop (stride * top) raw))

-- the whole picture is a rectangle of itself
pub whole_picture : (stride rows : ℕ) (raw : List ℕ) → length raw ≡ stride * rows → rectangle stride 0 0 rows stride raw ≡ raw
whole_picture stride rows raw size = rw (whole_rows stride 0 rows raw, mul-zero) (take_all (stride * rows) raw (omega (arith, size)))

-- a row of the picture is a rectangle of one row
pub picture_row : (stride k : ℕ) (raw : List ℕ) → rectangle stride k 0 1 stride raw ≡ row_bytes stride raw k
picture_row stride k raw = one_row stride k 0 stride raw ∙ take-take stride stride (drop (stride * k) raw) (omega arith)

-- row i of a rectangle is a part of row top + i
pub row_of_rectangle : (stride top left rows size i : ℕ) (raw : List ℕ) → left + size ≤ stride → stride * (top + rows) ≤ length raw → i < rows
    → row_bytes size (rectangle stride top left rows size raw) i ≡ take size (drop left (row_bytes stride raw (top + i)))
row_of_rectangle stride top left rows size i raw fits inside below =
    let n = rows - (i + 1) in
    let split : rows ≡ i + (1 + n) = omega arith in
    let upper = row_end stride (top + i) (top + rows) (omega arith) in
    let front = rectangle stride top left i size raw in
    let row = take size (drop left (row_bytes stride raw (top + i))) in
    let later = rectangle stride (top + i + 1) left n size raw in
    let parts : rectangle stride top left rows size raw ≡ front ++ (row ++ later) =
    ap (λ k. rectangle stride top left k size raw) split ∙ rows_follow stride top left i (1 + n) size raw
    ∙ ap (λ z. front ++ z) (rows_follow stride (top + i) left 1 n size raw)
    ∙ ap (λ z. front ++ (z ++ later)) (one_row stride (top + i) left size raw) in
    ap (λ z. take size (drop (size * i) z)) parts
    ∙ ap (take size) (drop_at front (row ++ later) (size * i) (length-rectangle stride top left i size raw fits (omega (arith, inside, upper))))
    ∙ take_at row later size (length-part stride left size (top + i) raw fits (omega (arith, inside, upper)))

-- a rectangle of a rectangle is one of the picture
pub rectangle_of_rectangle : (stride top left rows size t l r s : ℕ) (raw : List ℕ) → left + size ≤ stride → stride * (top + rows) ≤ length raw
    → l + s ≤ size → t + r ≤ rows
    → rectangle size t l r s (rectangle stride top left rows size raw) ≡ rectangle stride (top + t) (left + l) r s raw
rectangle_of_rectangle stride top left rows size t l zero s raw fits inside within below = refl
rectangle_of_rectangle stride top left rows size t l (suc r) s raw fits inside within below =
    let at : top + (t + r) ≡ top + t + r = omega arith in
    rw (
      rectangle_of_rectangle stride top left rows size t l r s raw fits inside within (omega (arith, below)),
      row_of_rectangle stride top left rows size (t + r) raw fits inside (omega (arith, below)),
      part_of_part left size l s (row_bytes stride raw (top + (t + r))) within,
      at,
    )

-- a byte of a rectangle is the picture's
pub byte_of_rectangle : (stride top left rows size i j : ℕ) (raw : List ℕ) → left + size ≤ stride → stride * (top + rows) ≤ length raw → i < rows
    → j < size → get_or (rectangle stride top left rows size raw) (size * i + j) 0 ≡ get_or raw (stride * (top + i) + left + j) 0
byte_of_rectangle stride top left rows size i j raw fits inside below within =
    let inner = rectangle stride top left rows size raw in
    sym (get_or-drop (size * i) inner j 0) ∙ sym (get_or-take size (drop (size * i) inner) j 0 within)
    ∙ ap (λ z. get_or z j 0) (row_of_rectangle stride top left rows size i raw fits inside below ∙ part_stands stride left size (top + i) raw fits)
    ∙ get_or-take size (drop (stride * (top + i) + left) raw) j 0 within ∙ get_or-drop (stride * (top + i) + left) raw j 0

-- the row that follows k rows is row k
pub next_row : (stride k : ℕ) (raw given row : List ℕ) → length given ≡ stride * k → given ++ row ≡ take (length given + stride) raw
    → row ≡ row_bytes stride raw k
next_row stride k raw given row size is =
    sym (drop_at given row (stride * k) size) ∙ ap (drop (stride * k)) is ∙ ap (λ n. drop (stride * k) (take (n + stride) raw)) size
    ∙ drop-take (stride * k) stride raw

-- one row more at the front
pub front_more : (stride k : ℕ) (raw : List ℕ) → take (stride * (k + 1)) raw ≡ take (stride * k) raw ++ row_bytes stride raw k
front_more stride k raw = grind (arith, common_steps, mul-suc stride k, take-add (stride * k) stride raw)

-- a rectangle of the first rows is one of the picture
pub of_first_rows : (stride top left rows size : ℕ) (front more : List ℕ) → stride * (top + rows) ≤ length front
    → rectangle stride top left rows size (front ++ more) ≡ rectangle stride top left rows size front
of_first_rows stride top left zero size front more inside = refl
of_first_rows stride top left (suc rows) size front more inside =
    let below = row_end stride (top + rows) (top + suc rows) (omega arith) in
    let at = stride * (top + rows) in
    let row : row_bytes stride (front ++ more) (top + rows) ≡ row_bytes stride front (top + rows) =
    ap (take stride) (drop-append-le at front more (omega (arith, inside, below)))
    ∙ take-append-le stride (drop at front) more (omega (arith, inside, below, length-drop at front)) in
    rw (of_first_rows stride top left rows size front more (omega (arith, inside, below)), row)

-- Bytes `row` were put into `old` where the part of row top + rows stands.
module _ (stride top left rows size : ℕ) (old new row : List ℕ) (fits : left + size ≤ stride) (inside : stride * (top + rows) + stride ≤ length old)
    (many : length row ≡ size)
    (is : new ≡ take (stride * (top + rows) + left) old ++ (row ++ drop size (drop (stride * (top + rows) + left) old))) where
  abbrev at : ℕ
  at = stride * (top + rows) + left

  abbrev front : List ℕ
  front = take at old

  abbrev later : List ℕ
  later = drop size (drop at old)

  before_end : at + size ≤ length old
  before_end = omega (arith, fits, inside)

  length-front : length front ≡ at
  length-front = omega (arith, before_end, length-take at old)

  -- one more row of the rectangle holds them, and the rows before it are as before
  pub rows_put : rectangle stride top left (rows + 1) size new ≡ rectangle stride top left rows size old ++ row
  rows_put =
      let begun : stride * (top + rows) ≤ length front = omega (arith, length-front) in
      row_more stride top left rows size new
      ∙ ap (λ z. z ++ take size (drop left (row_bytes stride new (top + rows))))
      (ap (rectangle stride top left rows size) is ∙ of_first_rows stride top left rows size front (row ++ later) begun
      ∙ sym (of_first_rows stride top left rows size front (drop at old) begun) ∙ ap (rectangle stride top left rows size) (take-append-drop at old))
      ∙ ap (λ z. rectangle stride top left rows size old ++ z)
      (part_stands stride left size (top + rows) new fits ∙ ap (λ z. take size (drop at z)) is
      ∙ ap (take size) (drop_at front (row ++ later) at length-front) ∙ take_at row later size many)

  -- a byte before or behind them stays
  beside : (p : ℕ) → (p < at) ⊎ (at + size ≤ p) → get_or new p 0 ≡ get_or old p 0
  beside p out = grind (arith, common_steps, is, length-front, many, before_end, out)

  -- all bytes outside of the rectangle stay, as they did before
  pub outside_put : {start : List ℕ} → KeepsOutside stride top left rows size start old → KeepsOutside stride top left (rows + 1) size start new
  outside_put k = record {
    length_is = grind (arith, common_steps, is, length-front, many, before_end, k.length_is);
    same = λ i j within out. let here : i ≡ top + rows → stride * i ≡ stride * (top + rows) = (λ e. ap (λ n. stride * n) e) in
        beside (stride * i + j) (grind (arith, fits, within, out, row_end stride i (top + rows), row_end stride (top + rows) i, here))
        ∙ k.same i j within (grind (arith, out));
  }

-- nothing was put in yet
pub keeps_all : (stride top left rows size : ℕ) (raw : List ℕ) → KeepsOutside stride top left rows size raw raw
keeps_all stride top left rows size raw = record { length_is = refl; same = λ i j within out. refl }

-- with no row of a tile the picture is as before
pub with_no_row : (stride top left size : ℕ) (tile raw : List ℕ) → with_tile stride top left 0 size tile raw ≡ raw
unfolding with_tile
with_no_row stride top left size tile raw = refl

-- with one row more
pub with_next_row : (stride top left rows size : ℕ) (tile raw : List ℕ)
    → with_tile stride top left (rows + 1) size tile raw
    ≡ take (stride * (top + rows) + left) (with_tile stride top left rows size tile raw)
    ++ (row_bytes size tile rows ++ drop size (drop (stride * (top + rows) + left) (with_tile stride top left rows size tile raw)))
unfolding with_tile
with_next_row stride top left rows size tile raw =
    rw add-one

-- the first rows of a tile stand in the rectangle, and bytes outside of it stay
rows_with_tile : (stride top left rows size : ℕ) (tile raw : List ℕ) → left + size ≤ stride → stride * (top + rows) ≤ length raw → size * rows ≤ length tile
    → (rectangle stride top left rows size (with_tile stride top left rows size tile raw) ≡ take (size * rows) tile)
    × KeepsOutside stride top left rows size raw (with_tile stride top left rows size tile raw)
rows_with_tile stride top left zero size tile raw fits inside long = (
  ap (λ n. take n tile) (sym (mul-zero size)),
  subst (λ z. KeepsOutside stride top left 0 size raw z) (sym (with_no_row stride top left size tile raw)) (keeps_all stride top left 0 size raw),
)
rows_with_tile stride top left (suc rows) size tile raw fits inside long =
    let below = row_end stride (top + rows) (top + suc rows) (omega arith) in
    let n = rows + 1 in
    let more : n ≡ suc rows = omega arith in
    let held = rows_with_tile stride top left rows size tile raw fits (omega (arith, inside, below)) (omega (arith, long, mul-suc size rows)) in
    let old = with_tile stride top left rows size tile raw in
    let new = with_tile stride top left n size tile raw in
    let row = row_bytes size tile rows in
    let ends : stride * (top + rows) + stride ≤ length old = omega (arith, inside, below, held.1.length_is) in
    let many : length row ≡ size =
    omega (arith, length-take size (drop (size * rows) tile), length-drop (size * rows) tile, long, mul-suc size rows) in
    let is = with_next_row stride top left rows size tile raw in
    subst
    (λ k. (rectangle stride top left k size (with_tile stride top left k size tile raw) ≡ take (size * k) tile)
    × KeepsOutside stride top left k size raw (with_tile stride top left k size tile raw))
    more (
      rows_put stride top left rows size old new row fits ends many is ∙ ap (λ z. z ++ row) held.0 ∙ sym (front_more size rows tile),
      outside_put stride top left rows size old new row fits ends many is held.1,
    )

-- a tile that was put in stands in the rectangle
pub tile_stands : (stride top left rows size : ℕ) (tile raw : List ℕ) → left + size ≤ stride → stride * (top + rows) ≤ length raw → length tile ≡ size * rows
    → rectangle stride top left rows size (with_tile stride top left rows size tile raw) ≡ tile
tile_stands stride top left rows size tile raw fits inside many =
    (rows_with_tile stride top left rows size tile raw fits inside (omega (arith, many))).0 ∙ take_all (size * rows) tile (omega (arith, many))

-- and all bytes outside of it stay
pub outside_tile : (stride top left rows size : ℕ) (tile raw : List ℕ) → left + size ≤ stride → stride * (top + rows) ≤ length raw → length tile ≡ size * rows
    → KeepsOutside stride top left rows size raw (with_tile stride top left rows size tile raw)
outside_tile stride top left rows size tile raw fits inside many =
    (rows_with_tile stride top left rows size tile raw fits inside (omega (arith, many))).1

-- a byte of a picture is one of a row
some_bytes : (stride height p : ℕ) → p < stride * height → 0 < stride
some_bytes zero height p below = absurd (omega (arith, below, zero-mul height))
some_bytes (suc n) height p below = omega arith

-- Two pictures that have the same rectangle, and the same bytes outside of it.
module _ (stride top left rows size height : ℕ) (old new : List ℕ) (within : left + size ≤ stride) (below : top + rows ≤ height)
    (many : length old ≡ stride * height) (kept : KeepsOutside stride top left rows size old new)
    (held : rectangle stride top left rows size new ≡ rectangle stride top left rows size old) where
  -- a byte of the rectangle is the same
  same_inside : (a b : ℕ) → a < rows → b < size → get_or new (stride * (top + a) + left + b) 0 ≡ get_or old (stride * (top + a) + left + b) 0
  same_inside a b row byte =
      let fits : stride * (top + rows) ≤ length old = omega (arith, many, mul-le stride (top + rows) stride height (omega arith) below) in
      sym (byte_of_rectangle stride top left rows size a b new within (omega (arith, fits, kept.length_is)) row byte)
      ∙ ap (λ z. get_or z (size * a + b) 0) held ∙ byte_of_rectangle stride top left rows size a b old within fits row byte

  -- so is byte j of row i, if it is one of the rectangle
  same_there : (i j : ℕ) → top ≤ i → i < top + rows → left ≤ j → j < left + size → get_or new (stride * i + j) 0 ≡ get_or old (stride * i + j) 0
  same_there i j first last start end =
      let row : top + (i - top) ≡ i = omega (arith, first) in
      let at : stride * (top + (i - top)) + left + (j - left) ≡ stride * i + j =
      ap (λ n. stride * n + left + (j - left)) row ∙ omega (arith, start) in
      ap (λ p. get_or new p 0) (sym at) ∙ same_inside (i - top) (j - left) (omega (arith, first, last)) (omega (arith, start, end))
      ∙ ap (λ p. get_or old p 0) at

  -- and any other
  same_byte : (i j : ℕ) → j < stride → get_or new (stride * i + j) 0 ≡ get_or old (stride * i + j) 0
  same_byte i j byte = grind (arith, kept.same i j byte, same_there i j)

  -- so the pictures are the same
  pub same_picture : new ≡ old
  same_picture = ext_get_or 0 new old kept.length_is (λ p inside.
      let size_is : p < stride * height = omega (arith, inside, kept.length_is, many) in
      let some : 0 < stride = some_bytes stride height p size_is in
      let at = div-add-mod p stride in
      ap (λ q. get_or new q 0) (sym at) ∙ same_byte (p / stride) (p % stride) (mod-lt p some) ∙ ap (λ q. get_or old q 0) at)

-- rows above a rectangle stay
rows_above : (stride top left rows size : ℕ) (old new : List ℕ) → KeepsOutside stride top left rows size old new → take (stride * top) new ≡ take (stride * top) old
rows_above stride top left rows size old new k =
    let m = stride * top in
    ext_get_or 0 (take m new) (take m old) (omega (arith, length-take m new, length-take m old, k.length_is)) (λ p inside.
    let within : p < m = omega (arith, inside, length-take m new) in
    let at = div-add-mod p stride in
    get_or-take m new p 0 within ∙ ap (λ q. get_or new q 0) (sym at)
    ∙ k.same (p / stride) (p % stride) (mod-lt p (some_bytes stride top p within)) (inl (row-Below p stride stride top within (omega arith)).1)
    ∙ ap (λ q. get_or old q 0) at ∙ sym (get_or-take m old p 0 within))

-- The first rows of a picture are those of another, and whole rows that were put in below them, too.
pub rows_grow : (stride top rows : ℕ) (old new raw : List ℕ) → KeepsOutside stride top 0 rows stride old new
    → rectangle stride 0 0 top stride old ≡ rectangle stride 0 0 top stride raw → rectangle stride top 0 rows stride new ≡ rectangle stride top 0 rows stride raw
    → rectangle stride 0 0 (top + rows) stride new ≡ rectangle stride 0 0 (top + rows) stride raw
rows_grow stride top rows old new raw k above here =
    let front : (xs : List ℕ) → rectangle stride 0 0 top stride xs ≡ take (stride * top) xs =
    λ xs. whole_rows stride 0 top xs ∙ ap (λ n. take (stride * top) (drop n xs)) (mul-zero stride) in
    let all : (xs : List ℕ) → rectangle stride 0 0 (top + rows) stride xs ≡ rectangle stride 0 0 top stride xs ++ rectangle stride top 0 rows stride xs =
    λ xs. rows_follow stride 0 0 top rows stride xs ∙ ap (λ n. rectangle stride 0 0 top stride xs ++ rectangle stride n 0 rows stride xs) (zero-add top) in
    let same : rectangle stride 0 0 top stride new ≡ rectangle stride 0 0 top stride old = front new ∙ rows_above stride top 0 rows stride old new k ∙ sym (front old) in
    all new ∙ ap (λ z. z ++ rectangle stride top 0 rows stride new) (same ∙ above) ∙ ap (λ z. rectangle stride 0 0 top stride raw ++ z) here ∙ sym (all raw)

-- what the laws on rectangles say
pub ruleset rectangle_laws = (whole_picture, picture_row, rectangle_of_rectangle, rows_follow, length-rectangle, length-part_of_picture, row_of_rectangle, byte_of_rectangle, next_row, of_first_rows, row_end, front_more, row_more, row_kept, row_skipped, rows_put, outside_put, same_picture, keeps_all, with_no_row, with_next_row, tile_stands, outside_tile, rows_grow)
