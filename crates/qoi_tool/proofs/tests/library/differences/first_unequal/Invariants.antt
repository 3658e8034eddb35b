-- The bytes so far are the same.
use Rattle.std.proofs.Common.{◌≡◌, take}
use Rattle.qoi_tool.proofs.tests.library.differences.first_unequal.Given as goal

abbrev pub invariant-loop-i : goal.invariant-loop-i
invariant-loop-i l = take l.i l.one ≡ take l.i l.other
