-- The bytes of chunks that are stored one after the other: each is the lowest bytes of a number and
-- perhaps alpha.
use Rattle.std.specs.Prelude.{◌≡◌, ◌≢◌, ℕ, ◌+◌, ◌≤◌, List, [], ◌∷◌, ◌++◌, length, take, slice_index, ◌<◌, ◌*◌, ◌/◌, ◌%◌, ◌^◌, ◌==◌, if◌then◌else◌}
use lib.Lanes.{digits_l, number_l}
use Rattle.qoi.specs.inner.block.Planes.{Words}
use Rattle.qoi.specs.Qoi.{RgbaPixel}

-- eight numbers, none above `most`, as bytes of one: sizes of chunks, or codes of such
pub record AreEight (most : ℕ) (xs : List ℕ) (all : ℕ) : Type 0 where
  pub eight : length xs ≡ 8
  pub few : (k : ℕ) → slice_index xs k ≤ most
  pub is : all ≡ number_l 256 xs

-- the bytes of a chunk: the lowest of a number and perhaps alpha
abbrev pub chunk_of : ℕ → ℕ → ℕ → List ℕ
chunk_of size number alpha = take size (digits_l 256 4 number ++ alpha ∷ [])

-- the first members of four lists, one list after the other
abbrev pub four_fronts : (ℕ → ℕ) → (ℕ → List ℕ) → List ℕ
four_fronts size list = take (size 0) (list 0) ++ (take (size 1) (list 1) ++ (take (size 2) (list 2) ++ take (size 3) (list 3)))

-- four chunks from these numbers; their sizes and alphas stand from an index on
abbrev pub four_chunks : List ℕ → List ℕ → List ℕ → ℕ → List ℕ
four_chunks ss numbers alphas n =
    four_fronts (λ k. slice_index ss (n + k)) (λ k. digits_l 256 4 (slice_index numbers k) ++ slice_index alphas (n + k) ∷ [])

-- of sixteen
abbrev pub sixteen_chunks : List ℕ → Words → List ℕ → List ℕ
sixteen_chunks ss words alphas =
    four_chunks ss words.one alphas 0 ++ (four_chunks ss words.two alphas 4
    ++ (four_chunks ss words.three alphas 8 ++ four_chunks ss words.four alphas 12))

-- the bytes of RGBA chunks that give these pixels
abbrev pub rgba_bytes : List RgbaPixel → List ℕ
rgba_bytes [] = []
rgba_bytes (p ∷ ps) = 255 ∷ p.r ∷ p.g ∷ p.b ∷ p.a ∷ rgba_bytes ps

-- four numbers whose lowest bytes are those of chunks, whatever their sizes
pub record HoldChunks (ns numbers alphas : List ℕ) : Type 0 where
  pub parts : (size k : ℕ) → size ≤ 5 → k < 4 → slice_index alphas k < 256
      → take size (digits_l 256 8 (slice_index ns k)) ≡ chunk_of size (slice_index numbers k) (slice_index alphas k)

-- the lowest bytes of four numbers, as many as these sizes say from the n-th on
abbrev pub four_parts : List ℕ → ℕ → List ℕ → List ℕ
four_parts ss n numbers = four_fronts (λ k. slice_index ss (n + k)) (λ k. digits_l 256 8 (slice_index numbers k))

-- the size that a code means
abbrev pub size_of_code : ℕ → ℕ
size_of_code c = if c == 3 then 4 else c

-- each of these sizes has a code: 0, 1, 2 or 4
abbrev pub HaveCodes : List ℕ → Type 0
HaveCodes ss = (k : ℕ) → (slice_index ss k ≤ 4) × (slice_index ss k ≢ 3)

-- four codes are the digits of a number in base 4: the size that the k-th of them means
abbrev pub size_at : ℕ → ℕ → ℕ
size_at codes k = size_of_code (codes / 4 ^ k % 4)

-- the sum of all four
abbrev pub total : ℕ → ℕ
total codes = size_at codes 0 + size_at codes 1 + size_at codes 2 + size_at codes 3

-- where the lowest bytes of four numbers stand, one number after the other, as many as codes mean
abbrev pub order_of : ℕ → List ℕ
order_of codes = four_fronts (size_at codes) (λ k. (4 * k) ∷ (4 * k + 1) ∷ (4 * k + 2) ∷ (4 * k + 3) ∷ [])

-- these bytes
abbrev pub close_bytes : ℕ → List ℕ → List ℕ
close_bytes codes numbers = four_fronts (size_at codes) (λ k. digits_l 256 4 (slice_index numbers k))
