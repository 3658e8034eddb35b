-- Sums of bytes, lane by lane.
use Rattle.std.proofs.Common.{[], ◌∙◌}
use Rattle.qoi.specs.Qoi.{pixel, hash}
use Rattle.qoi.proofs.encoding.lanes.LaneTests.{place_lane, themselves}
use Rattle.qoi.proofs.encoding.lanes.Lanewise.{two, flat, each, sum_8}
use Rattle.qoi.proofs.encoding.blocks.SpelledBlock.{before_is, own_planes}
use Rattle.qoi.proofs.encode.block.positions.index_positions.Goals as goal

pub returns : goal.returns
returns c = λ ps sixteen are.
    let p = own_planes [] (pixel 0 0 0 0) ps sixteen before_is c.args.p are in
    let s = two sum_8 (two sum_8 (two sum_8 p.r_is p.g_is) p.b_is) p.a_is in
    let t = two sum_8 (two sum_8 p.a_is p.a_is) p.b_is in
    let u = two sum_8 (two sum_8 (two sum_8 t t) p.g_is) s in
    let all = each (λ l. hash l.px) (two _ (two sum_8 (two sum_8 u u) s) (flat 63 p.r_is)) place_lane in
    all.is ∙ themselves hash [] (pixel 0 0 0 0) ps
