-- The pixels up to here are written, each as at most six bytes; those left of the block have these
-- bits. Once a fresh pixel is written, no repeats are carried.
use Rattle.std.proofs.Common.{◌≡◌, ◌⊎◌, ◌+◌, ◌-◌, ◌*◌, ◌<◌, ◌≤◌, true, Some, length, take, drop, slice_get}
use Rattle.qoi.specs.inner.BlockLoop.{FRONT_CARRIED}
use Rattle.qoi.specs.inner.Coder.{pixels_in, CoderPasses}
use Rattle.qoi.specs.inner.block.Lanes.{fresh_marks}
use Rattle.qoi.proofs.encode.sparse.write_marked_pixels.Given as goal

abbrev pub invariant-loop-marks_left : goal.invariant-loop-marks_left
invariant-loop-marks_left g l = record {
  lanes_few : l.pixels_left ≤ 16;
  enough : l.pixels_left ≤ length (pixels_in l.rest);
  rest_is : pixels_in l.rest ≡ drop (16 - l.pixels_left) (pixels_in l.fn.pixels.rest);
  marks_are : l.marks_left ≡ fresh_marks l.coder.last.px (take l.pixels_left (pixels_in l.rest));
  few : slice_get (pixels_in l.rest) 0 ≡ Some l.coder.last.px → l.coder.last.repeats ≤ FRONT_CARRIED;
  begun : (0 < l.marks_left) ⊎ ((l.coder.last.begun ≡ true) × (l.coder.last.repeats ≡ 0));
  room : l.piece.end + 6 * l.pixels_left ≤ l.fn.piece.end + 96;
  written : CoderPasses l.fn.coder l.fn.table l.fn.piece (pixels_in l.fn.pixels.rest) l.coder l.table l.piece (pixels_in l.rest);
}

abbrev pub decreases-loop-marks_left : goal.decreases-loop-marks_left
decreases-loop-marks_left g l = l.pixels_left
