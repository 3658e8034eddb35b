-- Each entry of the table is right.
use Rattle.qoi.proofs.format.AddedTerms.{places_add_none, others_add}
use Rattle.qoi.proofs.decode.deltas.all_added.Goals as goal

pub returns-clause-places : goal.returns-clause-places
returns-clause-places c = places_add_none

pub returns-clause-others : goal.returns-clause-others
returns-clause-others c i low byte = others_add i byte
