-- One lane: what its chunk's bytes are.
use Rattle.std.proofs.Common.{◌≡◌, ◌≢◌, ℕ, ◌<◌, ◌≤◌, Bool, true, false, IsTrue, [], ◌∷◌, List, length, slice_index, take, refl, arith, if◌then◌else◌, true≢false, sym}
use Rattle.qoi.specs.Qoi.{Chunk, Place, RgbaPixel, hash, bytes_of}
use Rattle.qoi.specs.WrittenList.{fits_in_diff, fits_in_luma, luma_of, spelled, first_chunk}
use Rattle.qoi.proofs.format.SamePixels.{hash_below}
use Rattle.qoi.proofs.encoding.coder.Spelled.{diff_small, luma_small}
use Rattle.qoi.specs.inner.block.Lanes.{Lane, as_diff, as_luma, same_alpha, fits_diff, fits_luma, second_of, lane_bytes}

-- a lane's chunk, by its tests
abbrev pub chunk_by : Bool → Bool → Bool → Bool → ℕ → RgbaPixel → RgbaPixel → RgbaPixel → Chunk
chunk_by stands is_diff is_luma keeps h d l p = if stands then Place h else spelled is_diff is_luma keeps d l p

-- Bytes are the first, perhaps a second one, and perhaps the pixel's others: one, two, four or five.
pub record LaneParts (bytes : List ℕ) (second : ℕ) (p : RgbaPixel) (keeps : Bool) : Type 0 where
  pub are : take (length bytes) (slice_index bytes 0 ∷ second ∷ p.g ∷ p.b ∷ p.a ∷ []) ≡ bytes
  pub first : slice_index bytes 0 < 256
  pub some : 0 < length bytes
  pub few : length bytes ≤ 5
  pub not_three : length bytes ≢ 3
  pub short : keeps ≡ true → length bytes ≤ 4

-- those of a chunk by tests are
parts_by : (st d l k : Bool) (h : ℕ) (s w p : RgbaPixel) → h < 64 → (d ≡ true → IsTrue (fits_in_diff s)) → (l ≡ true → IsTrue (fits_in_luma w))
    → LaneParts (bytes_of (chunk_by st d l k h s w p)) (if l then slice_index (bytes_of (luma_of w)) 1 else p.r) p k
parts_by true d l k h s w p lh ds ls =
    record { are = refl; first = omega arith; some = omega arith; few = omega arith; not_three = λ e. omega arith; short = λ e. omega arith }
parts_by false true l k h s w p lh ds ls =
    record { are = refl; first = omega (arith, diff_small s (ds refl)); some = omega arith; few = omega arith; not_three = λ e. omega arith; short = λ e. omega arith }
parts_by false false true k h s w p lh ds ls =
    record { are = refl; first = omega (arith, luma_small w (ls refl)); some = omega arith; few = omega arith; not_three = λ e. omega arith; short = λ e. omega arith }
parts_by false false false true h s w p lh ds ls =
    record { are = refl; first = omega arith; some = omega arith; few = omega arith; not_three = λ e. omega arith; short = λ e. omega arith }
parts_by false false false false h s w p lh ds ls =
    record { are = refl; first = omega arith; some = omega arith; few = omega arith; not_three = λ e. omega arith; short = λ e. absurd (true≢false (sym e)) }

-- a lane's are
pub parts_of : (l : Lane) → LaneParts (lane_bytes l) (second_of l) l.px (same_alpha l)
unfolding first_chunk
parts_of l = parts_by l.stands (fits_diff l) (fits_luma l) (same_alpha l) (hash l.px) (as_diff l) (as_luma l) l.px (hash_below l.px) (λ t. t) (λ t. t)
