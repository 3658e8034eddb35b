-- More copies at each turn: those of a vector, or one.
use Rattle.std.proofs.Common.{◌+◌, ◌*◌, arith}
use Rattle.qoi.proofs.decoding.Vectors.{written_none, written_one, written_copies}
use Rattle.qoi.proofs.decode.output.store_pixels.Goals as goal

pub loop-done-init : goal.loop-done-init
loop-done-init g c = (omega arith, written_none g.row.F g.row.N c.args.out.now c.args.at c.args.px)

pub loop-done-preserved-then-out-next-ge-VECTOR : goal.loop-done-preserved-then-out-next-ge-VECTOR
loop-done-preserved-then-out-next-ge-VECTOR g c =
    let done = c.loop-done.done in
    let more = c.min-done.result in (
      omega (arith, c.loop-done-test.true, c.min-done.ensures),
      written_copies _ c.args.at done more (done + more) c.requires.three_or_four (omega arith) c.loop-done.invariant.1 (c.store_vector.ensures more (omega (arith, c.min-done.ensures))),
    )

pub loop-done-preserved : goal.loop-done-preserved
loop-done-preserved g c =
    let done = c.loop-done.done in (
      omega (arith, c.loop-done-test.true),
      written_copies _ c.args.at done 1 (done + 1) c.requires.three_or_four (omega arith) c.loop-done.invariant.1 (written_one _ (c.args.at + g.row.N * done) c.store_pixel.ensures),
    )
