-- With the digits that are still to be put, the number stands before the line.
use Rattle.std.proofs.Common.{◌≡◌, ◌++◌, drop, length}
use Rattle.std.specs.Fmt.{decimal}
use Rattle.qoi_tool.proofs.line.Line.put_number.Given as goal

abbrev pub invariant-loop-rest : goal.invariant-loop-rest
invariant-loop-rest l =
    (length l.self.bytes ≡ length l.initial.self.bytes)
    × (decimal l.rest ++ drop l.self.start l.self.bytes ≡ decimal l.fn.n ++ drop l.initial.self.start l.initial.self.bytes)

abbrev pub decreases-loop-rest : goal.decreases-loop-rest
decreases-loop-rest l = l.rest
