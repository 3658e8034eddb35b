-- The rows up to here came.
use Rattle.std.proofs.Common.{◌≡◌, ◌++◌, [], List, ℕ, Some, length}
use Rattle.qoi.specs.pieces.PixelWriter.{HasTaken}
use Rattle.qoi_tool.proofs.tests.library.written_rows.write_rows.Given as goal

abbrev pub invariant-loop-rest : goal.invariant-loop-rest
invariant-loop-rest l = record {
  taken : (done : List ℕ) × (l.raw ≡ done ++ l.rest)
      × HasTaken (λ v. Some v.items) (record { raw = done; header = l.fn.header; style = l.fn.style }) (Some []) l.writer;
}

abbrev pub decreases-loop-rest : goal.decreases-loop-rest
decreases-loop-rest l = length l.rest
