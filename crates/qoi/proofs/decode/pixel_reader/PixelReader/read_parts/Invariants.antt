-- The rows so far were read, and `out` begins with their parts.
use Rattle.std.proofs.Common.{◌≡◌, ◌+◌, ◌*◌, List, ℕ, length, take}
use Rattle.qoi.specs.pieces.Copying.{Gives}
use Rattle.qoi.specs.pieces.PixelReader.{unread_bytes}
use Rattle.qoi.specs.Rectangles.{rectangle}
use Rattle.qoi.proofs.decode.pixel_reader.PixelReader.read_parts.Given as goal

abbrev pub invariant-loop-row : goal.invariant-loop-row
invariant-loop-row g l = record {
  more : List ℕ;
  count : length more ≡ l.stride * l.row;
  given : Gives g.R.Reader.ahead more l.initial.self l.self;
  parts : take (l.size * l.row) l.out ≡ rectangle l.stride 0 l.left l.row l.size more;
  left : unread_bytes l.self + l.stride * l.row ≡ unread_bytes l.initial.self;
  same : (l.self.header ≡ l.initial.self.header) × (l.self.channels ≡ l.initial.self.channels);
  none : l.row ≡ 0 → (l.self ≡ l.initial.self) × (l.out ≡ l.initial.out);
}
