-- The pixels up to here are written, but for the repeats that are carried.
use Rattle.std.proofs.Common.{◌≡◌, ◌⊎◌, ℕ, List, ◌++◌, ◌-◌, ◌<◌, length}
use Rattle.qoi.specs.Qoi.{RgbaPixel}
use Rattle.qoi.specs.inner.BlockLoop.{InBlocks}
use Rattle.qoi.specs.Styles.{style_in}
use Rattle.qoi.specs.inner.Coder.{pixels_in, kept_bytes, CoderBetween, SPARE}
use Rattle.qoi.proofs.encode.blocks.write_blocks.Given as goal

abbrev pub invariant-loop-rest : goal.invariant-loop-rest
invariant-loop-rest g l = record {
  same : l.state ≡ record l.fn.state { table = l.state.table };
  less : (length (pixels_in l.rest) < length (pixels_in l.fn.raw)) ⊎ ((length (pixels_in l.rest) ≡ length (pixels_in l.fn.raw)) × (l.piece.end < g.row.ROOM - SPARE));
  written : (unsent : List ℕ) (more : List RgbaPixel) → CoderBetween (style_in g.row.STYLE l.fn.state.style) unsent (pixels_in l.fn.raw ++ more) l.fn.state.table l.fn.state.last (kept_bytes l.fn.piece.piece)
      → InBlocks (style_in g.row.STYLE l.fn.state.style) unsent (length (pixels_in l.fn.raw)) (pixels_in l.rest) more l.state.table l.carry (kept_bytes l.piece);
}

abbrev pub decreases-loop-rest : goal.decreases-loop-rest
decreases-loop-rest g l = length (pixels_in l.rest)
