-- The tile holds the rows so far.
use Rattle.std.proofs.Common.{◌≡◌}
use Rattle.qoi.specs.Rectangles.{rectangle}
use Rattle.qoi_tool.proofs.tests.library.rectangles.cut.Given as goal

abbrev pub invariant-loop-k : goal.invariant-loop-k
invariant-loop-k l = l.tile.items ≡ rectangle l.stride l.area.top l.area.left l.k l.area.size l.raw
