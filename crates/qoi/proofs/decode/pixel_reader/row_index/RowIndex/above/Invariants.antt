-- The points from `i` on aren't tried any more: of those that stand for the first row, or for one above it, none serves.
use Rattle.std.proofs.Common.{◌<◌, ◌≤◌, ℕ, length, slice_index_or}
use Rattle.qoi.specs.pieces.RowIndex.{PointState, undecoded_pixels}
use Rattle.qoi.proofs.decode.pixel_reader.row_index.RowIndex.above.Given as goal

abbrev pub invariant-loop-i : goal.invariant-loop-i
invariant-loop-i l = record {
  within : l.i ≤ length l.self;
  tried : (k : ℕ) (m : PointState) → l.i ≤ k → k < length l.self → PointState.row (slice_index_or l.self k m) ≤ l.first
      → undecoded_pixels (slice_index_or l.self k m) < l.pixels_wanted;
}

abbrev pub decreases-loop-i : goal.decreases-loop-i
decreases-loop-i l = l.i
