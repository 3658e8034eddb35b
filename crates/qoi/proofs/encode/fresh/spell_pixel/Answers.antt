-- Each number has the bytes of the pixel's chunk.
use Rattle.std.proofs.Common.{◌+◌, ◌*◌, ◌%◌, arith}
use Rattle.qoi.proofs.encoding.coder.SpelledPixel.{alpha_kept, alpha_changes, spells_rgba, spells_diff, spells_luma, spells_rgb}
use Rattle.qoi.proofs.encode.fresh.spell_pixel.Goals as goal

pub returns-then-a-clause-spelled : goal.returns-then-a-clause-spelled
returns-then-a-clause-spelled g c iq =
    spells_rgba c.args.last c.args.px iq c.number.ensures.bytes _ (alpha_changes g.row.N c.a.result c.a-2.result c.args.last c.args.px iq c.number.ensures.bytes c.a.ensures c.a-2.ensures c.if-a.true)
    (λ i. c.number.ensures.number i % 16777216 * 256 + c.from.ensures i)

pub returns-then-r-g-clause-spelled : goal.returns-then-r-g-clause-spelled
returns-then-r-g-clause-spelled g c iq =
    spells_diff c.args.last c.args.px iq c.number.ensures.bytes _ _ _ c.steps-steps.ensures c.diff_steps-as_diff.ensures
    (alpha_kept g.row.N c.a.result c.a-2.result c.args.last c.args.px c.requires.channels c.requires.same_alpha iq c.a.ensures c.a-2.ensures c.if-a.false)
    (rw (c.r.ensures, c.g.ensures, c.b.ensures) at c.if-r-g.true) (omega arith)

pub returns-then-r-g-2-clause-spelled : goal.returns-then-r-g-2-clause-spelled
returns-then-r-g-2-clause-spelled g c iq =
    spells_luma c.args.last c.args.px iq c.number.ensures.bytes _ _ _ _ c.steps-steps.ensures c.diff_steps-as_diff.ensures c.luma_steps-as_luma.ensures
    (alpha_kept g.row.N c.a.result c.a-2.result c.args.last c.args.px c.requires.channels c.requires.same_alpha iq c.a.ensures c.a-2.ensures c.if-a.false)
    (rw (c.r.ensures, c.g.ensures, c.b.ensures) at c.if-r-g.false) (rw (c.r-2.ensures, c.g-2.ensures, c.b-2.ensures) at c.if-r-g-2.true) (omega arith)

pub returns-clause-spelled : goal.returns-clause-spelled
returns-clause-spelled g c iq =
    spells_rgb c.args.last c.args.px iq c.number.ensures.bytes _ _ _ _ c.steps-steps.ensures c.diff_steps-as_diff.ensures c.luma_steps-as_luma.ensures
    (alpha_kept g.row.N c.a.result c.a-2.result c.args.last c.args.px c.requires.channels c.requires.same_alpha iq c.a.ensures c.a-2.ensures c.if-a.false)
    (rw (c.r.ensures, c.g.ensures, c.b.ensures) at c.if-r-g.false) (rw (c.r-2.ensures, c.g-2.ensures, c.b-2.ensures) at c.if-r-g-2.false)
    (λ i. c.number.ensures.number i % 16777216 * 256 + c.from-2.ensures i)
