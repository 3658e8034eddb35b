-- Sizes of repeats, lane by lane.
use Rattle.std.proofs.Common.{ap, map, replicate, refl, arith, ◌∙◌}
use lib.Lanes.{zip2}
use Rattle.std.specs.Prelude.{min}
use Rattle.qoi.proofs.encoding.lanes.LaneTests.{lanes_from}
use Rattle.qoi.proofs.encoding.lanes.Lanewise.{not_8}
use Rattle.qoi.proofs.encoding.lanes.OverlaidRuns.{sizes_are}
use Rattle.qoi.proofs.encode.block.spelling.with_zeros.Goals as goal

pub returns : goal.returns
returns c = λ ls s r. c.lesser-2.ensures ∙ ap (λ m. zip2 min c.args.size (map not_8 m)) c.lesser.ensures
    ∙ sizes_are ls c.args.size c.args.rep _ s r (lanes_from 1 c.args.rep (replicate 16 255) (omega arith) c.fits-rep.0 refl)
