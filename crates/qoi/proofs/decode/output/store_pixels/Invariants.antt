-- `done` copies are written.
use Rattle.std.proofs.Common.{◌-◌, ◌≤◌}
use Rattle.qoi.specs.inner.Filling.{HasCopies}
use Rattle.qoi.proofs.decode.output.store_pixels.Given as goal

abbrev pub invariant-loop-done : goal.invariant-loop-done
invariant-loop-done g l =
    (l.done ≤ l.count) × HasCopies g.row.F g.row.N l.at l.done l.px l.initial.out l.out

abbrev pub decreases-loop-done : goal.decreases-loop-done
decreases-loop-done g l = l.count - l.done
