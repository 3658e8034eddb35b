-- Each entry of the table is right.
use Rattle.qoi.proofs.format.AddedTerms.{others_add}
use Rattle.qoi.proofs.decode.deltas.added.Goals as goal

pub returns : goal.returns
returns c = others_add c.args.b1 c.requires.1
