-- The pixels up to here are written, each as at most five bytes, and after the first step the repeats
-- that were carried.
use Rattle.std.proofs.Common.{◌≢◌, [], ◌+◌, ◌*◌, ◌<◌, ◌≤◌, length}
use Rattle.qoi.specs.Qoi.{chunk_max}
use Rattle.qoi.specs.inner.Coder.{pixels_in, CoderPasses, RUNS_AT_ONCE}
use Rattle.qoi.proofs.encode.coder.Coder.write_last_groups.Given as goal

abbrev pub invariant-loop-rest : goal.invariant-loop-rest
invariant-loop-rest g l = record {
  end : l.piece.end + chunk_max * length (pixels_in l.rest) ≤ l.fn.piece.end + (RUNS_AT_ONCE + 1) + chunk_max * length (pixels_in l.raw);
  first : 0 < l.self.last.repeats → pixels_in l.rest ≢ [] → l.piece.end + chunk_max * length (pixels_in l.rest) ≤ l.fn.piece.end + chunk_max * length (pixels_in l.raw);
  written : CoderPasses l.fn.self l.fn.table l.fn.piece (pixels_in l.raw) l.self l.table l.piece (pixels_in l.rest);
}

abbrev pub decreases-loop-rest : goal.decreases-loop-rest
decreases-loop-rest g l = length (pixels_in l.rest)
