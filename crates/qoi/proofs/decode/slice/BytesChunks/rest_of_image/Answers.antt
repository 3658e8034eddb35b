-- The chunks fill the buffer, and the marker follows; or the bytes are refused.
use Rattle.std.proofs.Common.{Some, sym, arith}
use Rattle.qoi.proofs.decoding.Progress.{reads_rest, refuses_slice}
use Rattle.qoi.proofs.decoding.Refusals.{handed_on}
use Rattle.qoi.proofs.decode.slice.BytesChunks.rest_of_image.Goals as goal

pub returns-in_default-clause-refused : goal.returns-in_default-clause-refused
returns-in_default-clause-refused g c = rw (sym c.self.view_is) (λ gone n start h. c.in_default.ensures.refused gone n start h _ (omega arith))

pub returns-in_err-self-inside-clause-refused : goal.returns-in_err-self-inside-clause-refused
returns-in_err-self-inside-clause-refused g c =
    rw (sym c.self.view_is) (handed_on _ _ _ c.from_residual.ensures.1 (refuses_slice (Some c.self.inside.0.now) _ c.in-Some.ensures.read c.in_err-self-inside.ensures.refused))

pub returns-clause-read : goal.returns-clause-read
returns-clause-read g c = rw (sym c.self.view_is) (reads_rest c.in-Some.ensures.read c.in_ok-self-inside.ensures.found)
