-- Some bytes were taken, with those that the writer had.
use Rattle.std.proofs.Common.{◌≡◌, ℕ, List, Option, ◌+◌, ◌≤◌, ◌<◌, length}
use Rattle.qoi.specs.EncoderState.{EncoderState}
use Rattle.qoi.specs.pieces.PixelWriter.{HasTaken, missing_bytes}
use Rattle.qoi_tool.proofs.tests.library.readers_to_writers.shrink.Given as goal

abbrev pub invariant-loop-pixels : goal.invariant-loop-pixels
invariant-loop-pixels g l = record {
  half : 0 < length l.half;
  fits : length l.half + length l.half ≤ length l.row;
  taken : (e : EncoderState) (before : Option (List ℕ)) → HasTaken g.W.Write.contents e before l.initial.writer
      → (f : EncoderState) × (f.header ≡ e.header) × (f.style ≡ e.style) × HasTaken g.W.Write.contents f before l.writer;
}

abbrev pub decreases-loop-pixels : goal.decreases-loop-pixels
decreases-loop-pixels g l = missing_bytes l.writer
