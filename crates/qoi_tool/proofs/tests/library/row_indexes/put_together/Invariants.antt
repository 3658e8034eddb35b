-- The rows above `top` are those of the file's image.
use Rattle.std.proofs.Common.{◌≡◌, ◌≤◌, ◌*◌, ◌-◌, length}
use Rattle.qoi.specs.Images.{file_image}
use Rattle.qoi.specs.Rectangles.{rectangle}
use Rattle.qoi_tool.proofs.tests.library.row_indexes.put_together.Given as goal

abbrev pub invariant-loop-top : goal.invariant-loop-top
invariant-loop-top l = record {
  below : l.top ≤ l.height;
  size : length l.raw ≡ l.stride * l.height;
  rows : rectangle l.stride 0 0 l.top l.stride l.raw ≡ rectangle l.stride 0 0 l.top l.stride (file_image l.file);
}

abbrev pub decreases-loop-top : goal.decreases-loop-top
decreases-loop-top l = l.height - l.top
