-- More bytes of the image were read, or it was refused before.
use Rattle.std.proofs.Common.{◌≡◌, List, ◌++◌, ℕ}
use Rattle.qoi.specs.pieces.PixelReader.{unread_bytes, HasGiven, IfGiven, IsSpent}
use Rattle.qoi.proofs.decode.pixel_reader.PixelReader.finish.Given as goal

abbrev pub invariant-loop-buf : goal.invariant-loop-buf
invariant-loop-buf g l = record {
  read : IfGiven g.R.Reader.ahead l.initial.self (λ d start given. (rest : List ℕ) × HasGiven d start (g.R.Reader.ahead l.self.reader) (given ++ rest) l.self);
  same : (l.self.header ≡ l.initial.self.header) × (l.self.channels ≡ l.initial.self.channels);
  spent : IsSpent l.initial.self → l.self ≡ l.initial.self;
}

abbrev pub decreases-loop-buf : goal.decreases-loop-buf
decreases-loop-buf g l = unread_bytes l.self
