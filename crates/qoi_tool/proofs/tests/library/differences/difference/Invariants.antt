-- The bytes so far are the same.
use Rattle.std.proofs.Common.{ℕ, List, Some}
use Rattle.qoi.specs.pieces.PixelReader.{unread_bytes, HasGiven}
use Rattle.qoi_tool.proofs.tests.library.differences.difference.Given as goal

abbrev pub invariant-loop-first : goal.invariant-loop-first
invariant-loop-first l = record {
  given : List ℕ;
  one : HasGiven l.fn.one (Some l.fn.one.reader) (Some l.first.reader) given l.first;
  other : HasGiven l.fn.other (Some l.fn.other.reader) (Some l.second.reader) given l.second;
}

abbrev pub decreases-loop-first : goal.decreases-loop-first
decreases-loop-first l = unread_bytes l.first
