-- The rows that were read so far are those of the vector.
use Rattle.std.proofs.Common.{◌≡◌, ◌-◌, ◌≤◌, Some}
use Rattle.qoi.specs.Images.{front_image}
use Rattle.qoi.specs.pieces.PixelReader.{as_decoder, HasRows}
use Rattle.qoi.specs.Rectangles.{rectangle}
use Rattle.qoi_tool.proofs.tests.library.strips.in_strips.Given as goal

abbrev pub invariant-loop-done : goal.invariant-loop-done
invariant-loop-done l = record {
  within : l.done ≤ l.height;
  read : HasRows (as_decoder l.initial.pixels) (Some l.initial.pixels.reader) (Some l.pixels.reader) l.stride l.done l.pixels;
  rows : l.out.items ≡ rectangle l.stride 0 0 l.done l.stride (front_image l.initial.pixels.channels l.initial.pixels.header l.initial.pixels.reader);
}

abbrev pub decreases-loop-done : goal.decreases-loop-done
decreases-loop-done l = l.height - l.done
