-- A small image, from the first chunk on, and then the marker.
use Rattle.std.proofs.Common.{◌+◌, Some, true, length, arith}
use Rattle.std.proofs.lemmas.Result.{IfErr-weaker, IfOk-weaker}
use Rattle.qoi.specs.Qoi.{UnexpectedBufferEnd}
use Rattle.qoi.proofs.decoding.Progress.{reads_rest, refuses_slice, reads_all_of, refuses_all_of}
use Rattle.qoi.proofs.decode.slice.slice_image.Goals as goal

pub returns-in_default-clause-refused : goal.returns-in_default-clause-refused
returns-in_default-clause-refused g c =
    refuses_all_of true (Some c.args.data.now) UnexpectedBufferEnd c.requires.channels c.requires.whole c.new_small-table.ensures c.start-last.ensures
    (λ gone n start h. c.in_default.ensures.refused gone n start h (length gone + n) (omega arith))

pub returns-then-out-lt-SMALL_IMAGE-clause-read : goal.returns-then-out-lt-SMALL_IMAGE-clause-read
returns-then-out-lt-SMALL_IMAGE-clause-read g c =
    IfOk-weaker c.slice_marker.result _ _ (λ rest is. reads_all_of c.requires.channels c.requires.whole c.new_small-table.ensures c.start-last.ensures (reads_rest c.in-Some.ensures.read is)) c.slice_marker.ensures.found

pub returns-then-out-lt-SMALL_IMAGE-clause-refused : goal.returns-then-out-lt-SMALL_IMAGE-clause-refused
returns-then-out-lt-SMALL_IMAGE-clause-refused g c =
    IfErr-weaker c.slice_marker.result _ _
    (λ e why. refuses_all_of true (Some c.args.data.now) e c.requires.channels c.requires.whole c.new_small-table.ensures c.start-last.ensures (refuses_slice (Some c.args.data.now) e c.in-Some.ensures.read why))
    c.slice_marker.ensures.refused
