-- The bytes that were read so far were written.
use Rattle.std.proofs.Common.{ℕ}
use Rattle.qoi.specs.pieces.Copying.{CopiesRaw}
use Rattle.qoi.specs.pieces.PixelReader.{unread_bytes}
use Rattle.qoi.proofs.Copied.{done}
use Rattle.qoi.proofs.decode.pixel_reader.PixelReader.copy_raw_to.Given as goal

abbrev pub invariant-loop-buf : goal.invariant-loop-buf
invariant-loop-buf g l = record {
  n : ℕ;
  copies : CopiesRaw g.R.Reader.in_memory g.R.Reader.ahead g.W.Write.contents n l.initial.self l.self l.initial.out l.out done;
}

abbrev pub decreases-loop-buf : goal.decreases-loop-buf
decreases-loop-buf g l = unread_bytes l.self
