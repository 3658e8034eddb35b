-- By the lemmas that the list is written, and no other.
use Rattle.qoi.proofs.encoding.styles.StyleLists.{list_written, style_unique}
use Rattle.qoi.proofs.laws.writing.written_is_one.Goals as goal

pub returns : goal.returns
returns c = record { list = list_written; one = style_unique }
