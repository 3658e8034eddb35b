-- The bits of the lanes that don't repeat.
use Rattle.std.proofs.Common.{List, [], map, sym, ◌∙◌}
use Rattle.std.proofs.lemmas.List.{length-map}
use Rattle.std.proofs.lemmas.Simd.{map-map}
use Rattle.qoi.specs.Qoi.{RgbaPixel}
use Rattle.qoi.specs.inner.block.Lanes.{Lane, mask, lanes_of, is_rep}
use Rattle.qoi.specs.inner.block.Planes.{block_pixels, last_pixel}
use Rattle.qoi.proofs.encoding.blocks.PackedBlock.{block_sixteen}
use Rattle.qoi.proofs.encoding.blocks.SpelledBlock.{lanes_long}
use Rattle.qoi.proofs.encoding.coder.MarkedPixels.{marks_of_lanes}
use Rattle.qoi.proofs.encode.block.Block.marks.Goals as goal

pub returns : goal.returns
returns c = λ before changes.
    let q = last_pixel before in
    let ps : List RgbaPixel = block_pixels c.args.self.words in
    let sixteen = block_sixteen c.args.self.words c.args.self.packed in
    let ls : List Lane = lanes_of [] q ps in
    let rep = (changes []).rep_is in
    c.unset_bits.ensures (map is_rep ls) (length-map ls is_rep ∙ lanes_long [] q ps ∙ sixteen.long) (rep.is ∙ sym (map-map mask is_rep ls))
    ∙ marks_of_lanes [] q ps
