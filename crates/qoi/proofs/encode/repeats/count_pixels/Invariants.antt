-- The pixels so far repeat.
use Rattle.std.proofs.Common.{length}
use Rattle.qoi.specs.inner.Coder.{pixels_in}
use Rattle.qoi.proofs.encoding.lists.GroupRuns.{RepeatsSoFar}
use Rattle.qoi.proofs.encode.repeats.count_pixels.Given as goal

abbrev pub invariant-loop-rest : goal.invariant-loop-rest
invariant-loop-rest g l = RepeatsSoFar (length (pixels_in l.raw)) (pixels_in l.raw) (pixels_in l.rest) l.px l.count

abbrev pub decreases-loop-rest : goal.decreases-loop-rest
decreases-loop-rest g l = length (pixels_in l.rest)
