-- All but `rest` of the raw bytes were copied.
use Rattle.std.proofs.Common.{◌≡◌, ◌+◌, ℕ}
use Rattle.qoi.specs.pieces.Copying.{Copies}
use Rattle.qoi.proofs.Copied.{done}
use Rattle.qoi.proofs.decode.pixel_reader.PixelReader.copy_bytes.Given as goal

abbrev pub invariant-loop-rest : goal.invariant-loop-rest
invariant-loop-rest g l = record {
  n : ℕ;
  count : n + l.rest ≡ l.count;
  copies : Copies g.R.Reader.in_memory g.R.Reader.ahead g.W.Write.contents n l.initial.self l.self l.initial.writer l.writer done;
}

abbrev pub decreases-loop-rest : goal.decreases-loop-rest
decreases-loop-rest g l = l.rest
