-- Position after position is looked at.
use Rattle.std.proofs.Common.{sym, ◌∙◌, ◌≡◌, ◌≢◌}
use Rattle.qoi.specs.Qoi.{blank, seen}
use Rattle.qoi.proofs.format.TableHolds.{blank_from_start, blank_here, blank_after, blank_nowhere}
use Rattle.qoi.proofs.encode.table.PixelTable.first_blank.Goals as goal

pub loop-index-init : goal.loop-index-init
loop-index-init c = λ past holds. blank_from_start past

pub returns-then-is_same-clause-first : goal.returns-then-is_same-clause-first
returns-then-is_same-clause-first c = λ past holds.
    let here : seen past c.loop-index.index ≡ blank = sym (c.at.ensures past holds) ∙ c.is_same.ensures.0 c.if-is_same.true ∙ c.blank.ensures in
    sym (c.loop-index.invariant past holds ∙ blank_here past c.loop-index.index c.loop-index-test.true here)

pub loop-index-preserved : goal.loop-index-preserved
loop-index-preserved c = λ past holds.
    let other : seen past c.loop-index.index ≢ blank = λ e. let no = sym (c.is_same.ensures.1 (c.at.ensures past holds ∙ e ∙ sym c.blank.ensures))
    ∙ c.if-is_same.false in cc in
    c.loop-index.invariant past holds ∙ blank_after past c.loop-index.index c.loop-index-test.true other

pub returns-clause-first : goal.returns-clause-first
returns-clause-first c = λ past holds. sym (c.loop-index.invariant past holds ∙ blank_nowhere past c.loop-index.index c.loop-index-test.false)
