-- The raw bytes up to here came: `workspace.1.0` is the state, and `workspace.1.1.0` what is held.
use Rattle.std.proofs.Common.{◌+◌, ◌≤◌, [], ◌++◌, length}
use Rattle.qoi.specs.inner.Coder.{kept_bytes}
use Rattle.qoi.specs.inner.Sending.{appended, GoesOn, StaysIn}
use Rattle.qoi.proofs.encode.pixel_writer.sending.take_raw.Given as goal

abbrev pub invariant-loop-writer : goal.invariant-loop-writer
invariant-loop-writer g l = record {
  most : length l.workspace.1.1.0 + length l.rest ≤ length l.fn.workspace.held + length l.raw;
  stays : StaysIn l.fn.workspace.state l.workspace.1.0;
  written : GoesOn appended (g.W.Write.contents l.fn.writer) l.fn.workspace.state [] (l.fn.workspace.held ++ l.raw)
      (g.W.Write.contents l.writer) l.workspace.1.0 (kept_bytes l.piece.piece) (l.workspace.1.1.0 ++ l.rest);
}

abbrev pub decreases-loop-writer : goal.decreases-loop-writer
decreases-loop-writer g l = length l.workspace.1.1.0 + length l.rest
