-- Raw bytes of the right number aren't refused by the encoder.
use Rattle.qoi.proofs.format.HeaderBytes.{size_not_refused, header_not_refused}
use Rattle.qoi.proofs.encode.encode_to_vec.Goals as goal

pub returns-in_err-new-clause-accepts : goal.returns-in_err-new-clause-accepts
returns-in_err-new-clause-accepts c some few size = absurd (size_not_refused _ _ _ _ some few size c.in_err-new.ensures.refused)

pub returns-in_err-new-clause-accepts_header : goal.returns-in_err-new-clause-accepts_header
returns-in_err-new-clause-accepts_header c h valid wide high size =
    absurd (header_not_refused h _ _ _ _ valid wide high size c.in_err-new.ensures.refused)
