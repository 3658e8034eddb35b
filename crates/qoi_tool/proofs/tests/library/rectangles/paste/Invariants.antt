-- The rows of the tile so far were put, and they end within the picture.
use Rattle.std.proofs.Common.{◌≡◌, ◌≤◌, ◌+◌, ◌*◌, length}
use Rattle.qoi.specs.Rectangles.{with_tile}
use Rattle.qoi_tool.proofs.tests.library.rectangles.paste.Given as goal

abbrev pub invariant-loop-k : goal.invariant-loop-k
invariant-loop-k l = record {
  put : l.raw ≡ with_tile l.stride l.area.top l.area.left l.k l.area.size l.tile l.initial.raw;
  within : l.stride * (l.area.top + l.k) ≤ length l.initial.raw;
}
