-- The chunks fill the buffer, and the marker follows; or a refusal is handed on.
use Rattle.std.proofs.Common.{sym, arith}
use Rattle.std.proofs.lemmas.Result.{IfErr-weaker, on_ok_weaker}
use Rattle.qoi.proofs.decoding.Progress.{reads_rest, refuses_stream}
use Rattle.qoi.proofs.decoding.Refusals.{handed_on}
use Rattle.qoi.proofs.decode.buffered.BufferedChunks.rest_of_image.Goals as goal

pub returns-in_err-decode_chunks-clause-refused : goal.returns-in_err-decode_chunks-clause-refused
returns-in_err-decode_chunks-clause-refused g c =
    rw (sym c.self.view_is) (handed_on _ _ _ c.from_residual.ensures.1 (λ gone n start h. c.in_err-decode_chunks.ensures.refused gone n start h _ (omega arith)))

pub returns-clause-read : goal.returns-clause-read
returns-clause-read g c = rw (sym c.self.view_is) (on_ok_weaker c.stream_marker.result (λ took. reads_rest c.in_ok-decode_chunks.ensures.read took) c.stream_marker.ensures.read)

pub returns-clause-refused : goal.returns-clause-refused
returns-clause-refused g c = rw (sym c.self.view_is) (IfErr-weaker c.stream_marker.result _ _ (λ e why. refuses_stream _ e c.in_ok-decode_chunks.ensures.read why) c.stream_marker.ensures.refused)
