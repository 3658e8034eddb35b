-- Eight bytes are put, of which some count.
use Rattle.std.proofs.Common.{◌≡◌, ◌+◌, ◌++◌, take, ap, ◌∙◌, arith, refl}
use lib.Lanes.{digits_l}
use Rattle.qoi.proofs.format.LaneBytes.{bytes_put}
use Rattle.qoi.proofs.encode.block.storing.each.store_number.Goals as goal

pub returns-clause-written : goal.returns-clause-written
returns-clause-written c = λ size few.
    let n = c.args.number in
    let same : n + 0 ≡ n = omega arith in
    bytes_put 8 c.args.at size c.args.out.now (digits_l 256 8 (n + 0)) c.requires.room refl few
    ∙ ap (λ m. take c.args.at c.args.out.now ++ take size (digits_l 256 8 m)) same
