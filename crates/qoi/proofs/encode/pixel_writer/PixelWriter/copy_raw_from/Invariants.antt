-- The bytes that the reader gave so far came.
use Rattle.std.proofs.Common.{◌≡◌, List, ℕ}
use Rattle.std.specs.Io.KnownBytes.{Consumes}
use Rattle.qoi.specs.pieces.PixelWriter.{missing_bytes, and_raw, HasTaken, IfTaken}
use Rattle.qoi.proofs.encode.pixel_writer.PixelWriter.copy_raw_from.Given as goal

abbrev pub invariant-loop-buf : goal.invariant-loop-buf
invariant-loop-buf g l = record {
  taken : IfTaken g.W.Write.contents l.initial.self (λ e before. (raw : List ℕ)
      × Consumes (g.R.Read.remaining l.initial.input) (g.R.Read.remaining l.input) raw × HasTaken g.W.Write.contents (and_raw e raw) before l.self);
  none : missing_bytes l.initial.self ≡ 0 → (l.self ≡ l.initial.self) × (l.input ≡ l.initial.input);
}

abbrev pub decreases-loop-buf : goal.decreases-loop-buf
decreases-loop-buf g l = missing_bytes l.self
