-- Where each pixel is known to have an RGBA chunk.
use Rattle.std.proofs.Common.{List}
use Rattle.qoi.specs.Qoi.{RgbaPixel}
use Rattle.qoi.specs.inner.block.Lanes.{lanes_of}
use Rattle.qoi.specs.Styles.{style_in}
use Rattle.qoi.specs.inner.block.Planes.{block_pixels}
use Rattle.qoi.proofs.encoding.blocks.SpelledBlock.{stands_by}
use Rattle.qoi.proofs.encode.block.Block.spell.Goals as goal

pub returns-then-are_all_rgba : goal.returns-then-are_all_rgba
returns-then-are_all_rgba g c = λ s all carry placed b.
    let ps : List RgbaPixel = block_pixels c.args.self.words in
    let full = c.are_all_rgba.ensures (lanes_of s.held s.last ps) all.steps_are.a_is (stands_by s.held s.last ps b.sixteen b.last_is c.args.stands b.stands_are) c.if-are_all_rgba.true in
    c.spell_rgba.ensures (style_in g.row.STYLE c.args.self.told_style) s ps b.sixteen b.last_is all.rep_is.is b.red_is full
