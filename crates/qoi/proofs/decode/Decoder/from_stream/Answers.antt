-- The header is read.
use Rattle.std.proofs.Common.{refl}
use Rattle.qoi.proofs.decoding.Promised.{has_header, has_refused_header}
use Rattle.qoi.proofs.decoding.Refusals.{handed_on}
use Rattle.qoi.proofs.decode.Decoder.from_stream.Goals as goal

pub returns-clause-accepted : goal.returns-clause-accepted
returns-clause-accepted g c = has_header _ _ _ c.in_ok-header.ensures refl

pub returns-in_err-header-clause-refused : goal.returns-in_err-header-clause-refused
returns-in_err-header-clause-refused g c =
    handed_on _ _ _ c.from_residual.ensures.1 (has_refused_header _ (g.R.Read.remaining c.decode_header.new.self) _ c.in_err-header.ensures)
