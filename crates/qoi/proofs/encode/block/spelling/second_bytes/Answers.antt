-- One of two bytes, lane by lane.
use Rattle.qoi.proofs.encoding.lanes.Lanewise.{two, one, flat, each}
use Rattle.qoi.proofs.encoding.lanes.LaneBits.{second_lane}
use Rattle.qoi.proofs.encode.block.spelling.second_bytes.Goals as goal

pub returns : goal.returns
returns c = λ ls as_luma red luma.
    let second = two _ (two _ as_luma.r_is (flat 4 red)) as_luma.b_is in
    each _ (two _ (two _ luma second) (two _ (one _ luma) red)) second_lane
