-- The byte, by doubling.
use Rattle.std.proofs.Common.{arith}
use Rattle.qoi.proofs.encoding.lanes.Lanewise.{two, flat, each}
use Rattle.qoi.proofs.encode.block.spelling.diffs.Goals as goal

pub returns : goal.returns
returns c = λ ls s.
    let t = two _ s.r_is s.r_is in
    let u = two _ (two _ t t) s.g_is in
    let v = two _ u u in
    each _ (two _ (two _ (two _ v v) s.b_is) (flat 64 s.r_is)) (λ l is. omega arith)
