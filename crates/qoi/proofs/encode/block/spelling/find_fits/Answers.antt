-- The steps fit, and alpha stays.
use Rattle.qoi.proofs.encoding.lanes.Lanewise.{two, one, flat, each, again}
use Rattle.qoi.proofs.encoding.lanes.LaneBits.{diff_lane, luma_lane}
use Rattle.qoi.proofs.encode.block.spelling.find_fits.Goals as goal

pub returns : goal.returns
returns c = λ ls d l kept.
    let low = two _ (two _ (two _ d.r_is d.g_is) d.b_is) (flat 252 d.r_is) in
    let above = two _ (two _ (two _ l.r_is l.b_is) (flat 240 l.r_is)) (two _ l.g_is (flat 192 l.r_is)) in
    record {
      diff_is = each _ (two _ (again _ c.where_is.ensures (one _ low)) kept) diff_lane;
      luma_is = each _ (two _ (again _ c.where_is-2.ensures (one _ above)) kept) luma_lane;
      same_alpha_is = kept;
    }
