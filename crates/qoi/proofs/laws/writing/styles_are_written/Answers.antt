-- By the lemma on the lists of style Places.
use Rattle.qoi.proofs.encoding.styles.StyleLists.{places_as_long}
use Rattle.qoi.proofs.laws.writing.styles_are_written.Goals as goal

pub returns-clause-as_long : goal.returns-clause-as_long
returns-clause-as_long c = places_as_long
