-- The least byte that applies.
use Rattle.qoi.proofs.encoding.lanes.Lanewise.{two, one, flat, each, again, sum_8}
use Rattle.qoi.proofs.encoding.lanes.LaneBits.{first_lane}
use Rattle.qoi.proofs.encode.block.spelling.first_bytes.Goals as goal

pub returns : goal.returns
returns c = λ ls as_diff as_luma fits stands indices.
    each _ (again _ c.lesser.ensures (two _
    (again _ c.lesser-first-2.ensures (two _
    (again _ c.lesser-first.ensures (two _ (two _ (two _ as_luma.g_is (flat 128 as_luma.g_is)) (one _ fits.luma_is)) (two sum_8 (flat 255 as_luma.g_is) fits.same_alpha_is)))
    (two _ (c.diffs.ensures ls as_diff) (one _ fits.diff_is))))
    (two _ indices (one _ stands)))) first_lane
