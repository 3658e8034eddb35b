-- The chunks of the pixels up to here are in the piece; in the least room there are none.
use Rattle.std.proofs.Common.{◌≡◌, ◌≤◌, length}
use Rattle.qoi.specs.declared.encode.piece.TheConstants.{LEAST_ROOM}
use Rattle.qoi.specs.inner.Coder.{kept_bytes}
use Rattle.qoi.specs.inner.Sending.{CoderGoes, AreNextPixels, StaysIn}
use Rattle.qoi.proofs.encode.image.encode_in_one_piece.Given as goal

abbrev pub invariant-loop-state : goal.invariant-loop-state
invariant-loop-state g l = record {
  stays : StaysIn l.initial.state l.state;
  goes : CoderGoes l.initial.state (kept_bytes l.initial.piece) l.initial.left l.state (kept_bytes l.piece) l.left;
  whole : AreNextPixels l.state l.left;
  less : length l.left ≤ length l.initial.left;
  same : g.row.ROOM ≡ LEAST_ROOM → l.piece ≡ l.initial.piece;
}

abbrev pub decreases-loop-state : goal.decreases-loop-state
decreases-loop-state g l = length l.left
