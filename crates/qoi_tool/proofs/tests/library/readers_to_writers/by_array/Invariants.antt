-- What was read so far was taken by the writer.
use Rattle.std.proofs.Common.{ℕ, List}
use Rattle.qoi.specs.declared.types.Style.TheVariants.{Reference}
use Rattle.qoi.specs.pieces.PixelReader.{unread_bytes, HasGiven}
use Rattle.qoi.specs.pieces.PixelWriter.{HasTaken}
use Rattle.qoi_tool.proofs.tests.library.readers_to_writers.by_array.Given as goal

abbrev pub invariant-loop-row : goal.invariant-loop-row
invariant-loop-row g l = record {
  given : List ℕ;
  read : HasGiven l.fn.decoder (g.R.Reader.ahead l.fn.decoder.reader) (g.R.Reader.ahead l.pixels.reader) given l.pixels;
  taken : HasTaken g.W.Write.contents (record { raw = given; header = record l.fn.decoder.header { channels = l.fn.decoder.channels }; style = Reference }) (g.W.Write.contents l.fn.out) l.writer;
}

abbrev pub decreases-loop-row : goal.decreases-loop-row
decreases-loop-row g l = unread_bytes l.pixels
