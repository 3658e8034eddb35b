-- The state between two blocks, by what is carried from one to the next.
use Rattle.std.specs.Prelude.{◌≡◌, ◌≢◌, ◌<◌, ◌≤◌, ◌++◌, ℕ, false, List, length, slice_get, Some}
pub use Rattle.qoi.specs.declared.encode.carry.Carry.{Carry}
pub use Rattle.qoi.specs.declared.encode.carry.TheConstants.{FRONT_CARRIED}
use Rattle.qoi.specs.Styles.{Style, Tight}
use Rattle.qoi.specs.Qoi.{RgbaPixel}
use Rattle.qoi.specs.inner.Coder.{LastPixel, Piece, Pixels, pixels_in, kept_bytes, CoderBetween}
use Rattle.qoi.specs.inner.block.Planes.{last_pixel}

-- this last pixel and its repeats are carried
pub record IsCarried {N : ℕ} (last : LastPixel) (carry : Carry N) : Type 0 where
  pub px_is : last_pixel carry.before ≡ last.px
  pub count_is : carry.count ≡ last.repeats
  pub named_is : carry.named ≡ last.named

-- A fresh pixel came, or the next one is fresh, no repeats are to be written, n pixels or more come, and
-- the style isn't Tight. If the next pixel repeats the last, so few repeats are to be written that with
-- a block's they are fewer than 62.
pub record GoesByBlocks (style : Style) (last : LastPixel) (n : ℕ) (rest : List RgbaPixel) : Type 0 where
  pub opens : last.begun ≡ false → (last.repeats ≡ 0) × (slice_get rest 0 ≢ Some last.px) × (n ≤ length rest) × (style ≢ Tight)
  pub few : slice_get rest 0 ≡ Some last.px → last.repeats ≤ FRONT_CARRIED

-- Between two blocks: the carried repeats are still to be written, the pixels `rest`, and then
-- others. If no fresh pixel came, none of the call's n pixels was written.
pub record InBlocks {N : ℕ} (style : Style) (unsent : List ℕ) (n : ℕ) (rest more table : List RgbaPixel) (carry : Carry N) (kept : List ℕ) : Type 0 where
  pub last : LastPixel
  pub is : IsCarried last carry
  pub between : CoderBetween style unsent (rest ++ more) table last kept
  pub goes : GoesByBlocks style last n rest

-- Some pixels are written: from `raw`, table, carry and piece to the primed ones, in a call that has
-- `least` pixels or more.
pub record WritesBlocks {N ROOM : ℕ} (style : Style) (least : ℕ) (raw : Pixels N) (table : List RgbaPixel) (carry : Carry N) (piece : Piece ROOM)
    (raw' : Pixels N) (table' : List RgbaPixel) (carry' : Carry N) (piece' : Piece ROOM) : Type 0 where
  pub less : length (pixels_in raw') < length (pixels_in raw)
  pub written : (unsent : List ℕ) (n : ℕ) (more : List RgbaPixel) → least ≤ n
      → InBlocks style unsent n (pixels_in raw) more table carry (kept_bytes piece) → InBlocks style unsent n (pixels_in raw') more table' carry' (kept_bytes piece')
