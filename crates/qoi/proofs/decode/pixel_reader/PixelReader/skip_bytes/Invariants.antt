-- All but `rest` of the raw bytes were read, or the image was refused before.
use Rattle.std.proofs.Common.{◌≡◌, ◌+◌, List, ℕ, length}
use Rattle.qoi.specs.pieces.Copying.{Gives}
use Rattle.qoi.specs.pieces.PixelReader.{unread_bytes, IsSpent}
use Rattle.qoi.proofs.decode.pixel_reader.PixelReader.skip_bytes.Given as goal

abbrev pub invariant-loop-rest : goal.invariant-loop-rest
invariant-loop-rest g l = record {
  more : List ℕ;
  count : length more + l.rest ≡ l.count;
  given : Gives g.R.Reader.ahead more l.initial.self l.self;
  left : unread_bytes l.self + l.count ≡ unread_bytes l.initial.self + l.rest;
  same : (l.self.header ≡ l.initial.self.header) × (l.self.channels ≡ l.initial.self.channels);
  none : l.count ≡ 0 → l.self ≡ l.initial.self;
  spent : IsSpent l.initial.self → (l.self ≡ l.initial.self) × (l.rest ≡ l.count);
}

abbrev pub decreases-loop-rest : goal.decreases-loop-rest
decreases-loop-rest g l = l.rest
