-- The images of the files so far were taken.
use Rattle.std.proofs.Common.{ℕ, List, Option, take}
use Rattle.std.specs.List.{flat_map}
use Rattle.qoi.specs.EncoderState.{EncoderState}
use Rattle.qoi.specs.Images.{file_image_in}
use Rattle.qoi.specs.pieces.PixelWriter.{HasTaken, and_raw}
use Rattle.qoi_tool.proofs.tests.library.sheets.append_files.Given as goal

abbrev pub invariant-loop-file : goal.invariant-loop-file
invariant-loop-file g l = (e : EncoderState) (before : Option (List ℕ)) → HasTaken g.W.Write.contents e before l.initial.sheet
    → HasTaken g.W.Write.contents (and_raw e (flat_map (λ file. file_image_in e.header.channels file.now) (take l.file-index l.files))) before l.sheet
