-- Chunks are taken while there is room for any run, then until the buffer is full, and then the
-- marker; or a refusal is handed on.
use Rattle.std.proofs.Common.{arith}
use Rattle.std.proofs.lemmas.Result.{IfErr-weaker, on_ok_weaker}
use Rattle.qoi.proofs.decoding.Progress.{chunks_after, reads_rest, refuses_stream}
use Rattle.qoi.proofs.decoding.Refusals.{handed_on}
use Rattle.qoi.proofs.decode.stream.AnyChunks.rest_of_image.Goals as goal

pub returns-in_err-now-clause-refused : goal.returns-in_err-now-clause-refused
returns-in_err-now-clause-refused g c =
    handed_on _ _ _ c.from_residual.ensures.1 (λ gone n start h. c.in_err-now.ensures.refused gone n start h _ (omega arith))

pub returns-in_err-decode_chunks-clause-refused : goal.returns-in_err-decode_chunks-clause-refused
returns-in_err-decode_chunks-clause-refused g c =
    handed_on _ _ _ c.from_residual-in_err-decode_chunks.ensures.1
    (λ gone n start h. c.in_err-decode_chunks.ensures.refused gone n start (c.in_ok-now.ensures.read.goes_on.between gone n start h) _ (omega arith))

pub returns-clause-read : goal.returns-clause-read
returns-clause-read g c =
    on_ok_weaker c.stream_marker.result (λ took. reads_rest (chunks_after c.in_ok-now.ensures.read.goes_on c.in_ok-decode_chunks.ensures.read) took) c.stream_marker.ensures.read

pub returns-clause-refused : goal.returns-clause-refused
returns-clause-refused g c =
    IfErr-weaker c.stream_marker.result _ _
    (λ e why. refuses_stream _ e (chunks_after c.in_ok-now.ensures.read.goes_on c.in_ok-decode_chunks.ensures.read) why) c.stream_marker.ensures.refused
