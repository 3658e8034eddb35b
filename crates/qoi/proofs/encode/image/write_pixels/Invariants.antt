-- The chunks of the pixels up to here are in the piece, or sent.
use Rattle.std.proofs.Common.{◌≤◌, length}
use Rattle.qoi.specs.inner.Coder.{kept_bytes}
use Rattle.qoi.specs.inner.Sending.{GoesOn, IsReady, StaysIn}
use Rattle.qoi.proofs.encode.image.write_pixels.Given as goal

abbrev pub invariant-loop-rest : goal.invariant-loop-rest
invariant-loop-rest g l = record {
  stays : StaysIn l.fn.state l.state;
  left : length l.rest ≤ length l.data;
  ready : IsReady (g.W.Writer.room l.writer) g.row.ROOM l.state (kept_bytes l.piece.piece) l.rest;
  written : GoesOn g.W.Writer.wrote l.fn.writer l.fn.state (kept_bytes l.fn.piece.piece) l.data l.writer l.state (kept_bytes l.piece.piece) l.rest;
}

abbrev pub decreases-loop-rest : goal.decreases-loop-rest
decreases-loop-rest g l = length l.rest
