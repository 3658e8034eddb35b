-- Four shifts, each twice as far.
use Rattle.std.proofs.Common.{ℕ, List, replicate, arith, refl, ap, ◌∙◌}
use Rattle.std.specs.Prelude.{max}
use lib.Lanes.{zip2}
use Rattle.qoi.proofs.encoding.lanes.LaneTests.{lanes_from}
use Rattle.qoi.proofs.encoding.lanes.RunningMost.{one_most, twice_most, long_next}
use Rattle.qoi.proofs.encode.block.counting.running_most.Goals as goal

pub returns-clause-most : goal.returns-clause-most
returns-clause-most c =
    let x = c.args.v in
    let f1 = c.greater-two.result in
    let f2 = c.greater-four.result in
    let f4 = c.greater-eight.result in
    let on = λ (n : ℕ) (xs : List ℕ). lanes_from n (replicate 16 0) xs in
    let e1 = c.greater-two.ensures ∙ ap (zip2 max x) c.shift_in.ensures in
    let l1 = long_next x f1 1 (omega arith) c.fits-v.0 e1 in
    let e2 = c.greater-four.ensures ∙ ap (zip2 max f1) (on 14 f1 (omega arith) refl l1) in
    let l2 = long_next f1 f2 2 (omega arith) l1 e2 in
    let e4 = c.greater-eight.ensures ∙ ap (zip2 max f2) (on 12 f2 (omega arith) refl l2) in
    let l4 = long_next f2 f4 4 (omega arith) l2 e4 in
    let e8 = c.greater.ensures ∙ ap (zip2 max f4) (on 8 f4 (omega arith) refl l4) in
    twice_most x f4 c.greater.result 8 16 (omega arith) refl l4
    (twice_most x f2 f4 4 8 (omega arith) refl l2
    (twice_most x f1 f2 2 4 (omega arith) refl l1
    (twice_most x x f1 1 2 (omega arith) refl c.fits-v.0 (one_most x) e1) e2) e4) e8
