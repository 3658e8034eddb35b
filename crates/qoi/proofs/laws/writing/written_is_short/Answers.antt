-- By the upper bound.
use Rattle.qoi.proofs.encoding.styles.StyleLists.{style_upper}
use Rattle.qoi.proofs.laws.writing.written_is_short.Goals as goal

pub returns : goal.returns
returns c = style_upper
