-- First bytes of repeats, lane by lane.
use Rattle.std.proofs.Common.{ap, ◌∙◌}
use lib.Lanes.{zip2}
use Rattle.std.specs.Prelude.{max}
use Rattle.qoi.proofs.encoding.lanes.OverlaidRuns.{firsts_are}
use Rattle.qoi.proofs.encode.block.spelling.with_runs.Goals as goal

pub returns : goal.returns
returns c = λ ls n q f r e. c.greater.ensures ∙ ap (zip2 max c.args.first) c.lesser.ensures ∙ firsts_are ls n q c.args.first c.args.rep c.args.count f r e
