-- One more block repeats, or the count ends in it; and what is counted after the last block.
use Rattle.std.proofs.Common.{◌≡◌, ◌+◌, ◌++◌, List, length, replicate, refl, sym, ap, ◌∙◌, subst, arith}
use Rattle.qoi.specs.Qoi.{RgbaPixel}
use Rattle.qoi.specs.inner.Coder.{pixels_in}
use Rattle.qoi.proofs.encoding.lists.GroupRuns.{RepeatsSoFar, repeats_on, counted_on}
use Rattle.qoi.proofs.encoding.coder.PixelsIn.{pixels_few}
use Rattle.qoi.proofs.encode.repeats.repeats_of.Goals as goal

pub loop-rest-init : goal.loop-rest-init
loop-rest-init g c = record { within = omega (arith, pixels_few g.row.N c.args.raw.bytes.now c.args.raw.channels c.args.raw.whole); same = refl }

pub returns-then-more-lt16-clause-counted : goal.returns-then-more-lt16-clause-counted
returns-then-more-lt16-clause-counted g c =
    counted_on c.args.pixel.px _ _ c.loop-rest.count c.repeats_in_block-more.result c.loop-rest.invariant.same
    (c.repeats_in_block-more.ensures.counted c.if-more-lt16.true)

pub loop-rest-preserved : goal.loop-rest-preserved
loop-rest-preserved g c =
    let all : c.repeats_in_block-more.result ≡ 16 = omega (arith, c.repeats_in_block-more.ensures.within, c.if-more-lt16.false) in
    let after = c.skip-rest.ensures in
    let p : RgbaPixel = c.args.pixel.px in
    subst (λ more. RepeatsSoFar (length c.args.raw.bytes.now) (pixels_in c.args.raw) (pixels_in c.skip-rest.result) c.args.pixel.px (c.loop-rest.count + more)) (sym all)
    (repeats_on (length c.args.raw.bytes.now) 16 (pixels_in c.args.raw) (pixels_in c.loop-rest.rest) (pixels_in c.skip-rest.result) c.args.pixel.px c.loop-rest.count c.loop-rest.invariant
    after.size (c.repeats_in_block-more.ensures.all all
    ∙ ap (λ (z : List RgbaPixel). replicate 16 p ++ z) (sym after.rest)))

pub returns-clause-counted : goal.returns-clause-counted
returns-clause-counted g c =
    counted_on c.args.pixel.px _ _ c.loop-rest.count c.count_pixels.result c.loop-rest.invariant.same c.count_pixels.ensures.counted
