-- All channels are 0.
use Rattle.qoi.proofs.encoding.lanes.BlankLanes.{blank_by}
use Rattle.qoi.proofs.encoding.lanes.Lanewise.{two, one, each, again}
use Rattle.qoi.proofs.encode.block.planes.blanks.Goals as goal

pub returns : goal.returns
returns c = λ ls f p. each _ (again _ c.where_is.ensures (one _ (two _ (two _ (two _ p.r_is p.g_is) p.b_is) p.a_is))) (λ l is. blank_by (f l))
