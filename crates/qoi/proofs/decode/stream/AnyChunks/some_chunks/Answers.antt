-- The refusal is handed on.
use Rattle.qoi.proofs.decoding.Refusals.{handed_on}
use Rattle.qoi.proofs.decode.stream.AnyChunks.some_chunks.Goals as goal

pub returns-in_err-now-clause-refused : goal.returns-in_err-now-clause-refused
returns-in_err-now-clause-refused g c = handed_on _ _ _ c.from_residual.ensures.1 c.in_err-now.ensures.refused
