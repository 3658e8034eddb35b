-- This row of the pictures so far was taken.
use Rattle.std.proofs.Common.{ℕ, List, Option, take, drop}
use Rattle.std.specs.List.{flat_map}
use Rattle.qoi.specs.EncoderState.{EncoderState}
use Rattle.qoi.specs.pieces.PixelWriter.{HasTaken, and_raw}
use Rattle.qoi_tool.proofs.tests.library.sheets.append_row.Given as goal

abbrev pub invariant-loop-p : goal.invariant-loop-p
invariant-loop-p g l = (e : EncoderState) (before : Option (List ℕ)) → HasTaken g.W.Write.contents e before l.initial.sheet
    → HasTaken g.W.Write.contents (and_raw e (flat_map (λ p. take l.fn.size (drop l.fn.above p.now)) (take l.p-index l.pictures))) before l.sheet
