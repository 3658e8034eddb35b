-- By the lemmas on rectangles.
use Rattle.qoi.proofs.format.RectangleLaws.{outside_put, outside_tile}
use Rattle.qoi.proofs.laws.rectangles.rows_are_put.Goals as goal

pub returns-clause-stays : goal.returns-clause-stays
returns-clause-stays c stride top left rows size start old new row fits inside many is k = outside_put stride top left rows size old new row fits inside many is k

pub returns-clause-outside : goal.returns-clause-outside
returns-clause-outside c = outside_tile
