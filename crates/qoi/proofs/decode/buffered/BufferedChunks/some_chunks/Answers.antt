-- What the buffer shows is taken, and then other chunks; or the refusal is handed on.
use Rattle.std.proofs.Common.{[], sym, arith}
use Rattle.qoi.proofs.format.PartOfChunk.{part_empty}
use Rattle.qoi.proofs.decoding.Progress.{none_taken}
use Rattle.qoi.proofs.decoding.Grown.{stream_refused}
use Rattle.qoi.proofs.decoding.Refusals.{handed_on}
use Rattle.qoi.proofs.decode.buffered.BufferedChunks.some_chunks.Goals as goal

pub returns-in_err-front-clause-refused : goal.returns-in_err-front-clause-refused
returns-in_err-front-clause-refused g c =
    rw (sym c.self.view_is) (handed_on _ _ _ c.from_residual.ensures.1
    (stream_refused _ [] (none_taken c.requires) c.in_err-front.ensures.unfilled c.in_err-front.ensures.failed (part_empty [] (omega arith)) c.in_err-front.field-0.0))

pub returns-in_err-now-clause-refused : goal.returns-in_err-now-clause-refused
returns-in_err-now-clause-refused g c =
    rw (sym c.self.view_is) (handed_on _ _ _ c.from_residual-in_err-now.ensures.1
    (λ gone n start h. c.in_err-now.ensures.refused gone n start (c.in_ok-front.ensures.takes.between gone n start h)))
