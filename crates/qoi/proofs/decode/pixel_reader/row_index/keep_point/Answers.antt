-- One point more.
use Rattle.qoi.proofs.decode.pixel_reader.row_index.keep_point.Goals as goal

pub returns-clause-kept : goal.returns-clause-kept
returns-clause-kept c = (c.of.result, c.of.ensures, c.in_ok-push.ensures.items)
