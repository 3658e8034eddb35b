-- The first clear bit is in the first pixel that differs.
use Rattle.std.proofs.Common.{◌++◌, replicate, sym, ap, ◌∙◌}
use Rattle.qoi.proofs.encoding.lists.GroupRuns.{pixels_drop}
use Rattle.qoi.proofs.encoding.coder.PixelBlock.{front_of, whole_block}
use Rattle.qoi.proofs.encode.repeats.repeats_in_block.Goals as goal

pub returns : goal.returns
returns g c =
    let same = c.same_in_block-same in
    let raw = c.args.raw in
    let w = front_of g.row.N raw.bytes.now c.args.px same.result raw.channels c.requires.opaque c.requires.long same.ensures.bits in
    let after = ap (λ z. replicate 16 c.args.px ++ z) (sym (pixels_drop g.row.N 16 raw.bytes.now raw.channels c.requires.long)) in
    record { within = w.within; all = λ e. w.all e ∙ after; counted = w.counted }

pub returns-then-all_same_in_block-clause-all : goal.returns-then-all_same_in_block-clause-all
returns-then-all_same_in_block-clause-all g c = (λ e.
    let raw = c.args.raw in
    whole_block g.row.N raw.bytes.now c.args.px raw.channels c.requires.opaque c.requires.long (c.all_same_in_block.ensures c.if-all_same_in_block.true)
    ∙ ap (λ z. replicate 16 c.args.px ++ z) (sym (pixels_drop g.row.N 16 raw.bytes.now raw.channels c.requires.long)))
