-- Four pixels at a time.
use Rattle.std.proofs.Common.{take, drop, sym, subst}
use Rattle.qoi.specs.inner.block.Planes.{Planes, ArePlanes}
use Rattle.qoi.proofs.encoding.blocks.FourFours.{four_fours}
use Rattle.qoi.proofs.encoding.lanes.WordPlanes.{all_words}
use Rattle.qoi.proofs.encode.block.planes.join_lanes.Goals as goal

pub returns : goal.returns
returns c = λ ps s e.
    let f = four_fours ps s in
    let p : Planes = record { r = c.args.first; g = c.args.second; b = c.args.third; a = c.args.fourth } in
    let r = all_words (take 4 ps) (take 4 (drop 4 ps)) (take 4 (drop 8 ps)) (take 4 (drop 12 ps)) p
    f.one f.two f.three f.four (subst (λ xs. ArePlanes xs p) (sym f.whole) e) in
    record { one_are = r.0; two_are = r.1; three_are = r.2; four_are = r.3 }
