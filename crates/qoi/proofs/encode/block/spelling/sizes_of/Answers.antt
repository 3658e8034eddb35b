-- The sizes, from masks.
use Rattle.std.proofs.Common.{bit_and, bit_or}
use Rattle.qoi.proofs.encoding.lanes.Lanewise.{two, one, flat, each, again, sum_8, not_8}
use Rattle.qoi.proofs.encoding.lanes.LaneBits.{size_lane}
use Rattle.qoi.proofs.encode.block.spelling.sizes_of.Goals as goal

pub returns : goal.returns
returns c = λ ls fits stands.
    let absent = one not_8 (two bit_or stands fits.diff_is) in
    each _ (two _
    (again _ c.lesser-size.ensures (two _ (two sum_8 (two sum_8 (flat 4 fits.same_alpha_is) fits.luma_is) fits.luma_is) (two bit_or (flat 1 fits.same_alpha_is) absent)))
    (two _ (two bit_and (one not_8 fits.same_alpha_is) absent) (flat 1 fits.same_alpha_is))) size_lane
