-- Lane by lane, and pixel by pixel.
use Rattle.std.proofs.Common.{◌==◌, List, [], map, sym, ◌∙◌}
use Rattle.std.proofs.lemmas.Bool.{and_parts}
use Rattle.std.proofs.lemmas.List.{length-map}
use Rattle.std.proofs.lemmas.Simd.{map-map}
use Rattle.qoi.specs.Qoi.{RgbaPixel, pixel, hash}
use Rattle.qoi.specs.inner.block.Lanes.{Lane, mask, lanes_of, is_rep}
use Rattle.qoi.specs.inner.block.Planes.{block_pixels, last_pixel}
use Rattle.qoi.proofs.encoding.lanes.BlankLanes.{is_blank, or_not, is_plain, plain_lanes, is_elsewhere, blank_stays}
use Rattle.qoi.proofs.encoding.lanes.LaneTests.{themselves}
use Rattle.qoi.proofs.encoding.lanes.Lanewise.{two, one, each, again, not_8}
use Rattle.qoi.proofs.encoding.blocks.PackedBlock.{block_sixteen}
use Rattle.qoi.proofs.encoding.blocks.SpelledBlock.{before_is, last_is_pixel, own_planes, plane_by}
use Rattle.qoi.proofs.encode.block.Block.has_no_absent_blank.Goals as goal

pub returns-then-all_set : goal.returns-then-all_set
returns-then-all_set c = λ before changes holds held table.
    let q = last_pixel before in
    let ps : List RgbaPixel = block_pixels c.args.self.words in
    let ls : List Lane = lanes_of held q ps in
    let rep = (changes held).rep_is in
    let sixteen = block_sixteen c.args.self.words c.args.self.packed in
    let black = c.blanks-blank.ensures ls (λ l. l.px)
    (own_planes held q ps sixteen (last_is_pixel held q ps sixteen rep.are) c.args.self.planes c.args.self.planes_are) in
    let all = each (λ l. mask (is_plain l)) (two _ rep (one not_8 black)) (λ l is. or_not (is_rep l) (is_blank l.px)) in
    plain_lanes held q ps
    (sym (c.all_set.ensures (map is_plain ls) (length-map ls is_plain ∙ rep.long) (all.is ∙ sym (map-map mask is_plain ls))) ∙ c.if-all_set.true)

pub returns : goal.returns
returns c = λ before changes holds held table.
    let ps : List RgbaPixel = block_pixels c.args.self.words in
    let sixteen = block_sixteen c.args.self.words c.args.self.packed in
    let planes = c.args.self.planes_are in
    let both = and_parts c.is_same.result c.all_set-2.result holds in
    let black = c.blanks-blank.ensures _ _ (own_planes [] (pixel 0 0 0 0) ps sixteen before_is c.args.self.planes planes) in
    let zero = again c.where_is-elsewhere.result c.where_is-elsewhere.ensures
    (one (λ x. mask (x == 0)) (plane_by [] (pixel 0 0 0 0) ps sixteen before_is hash c.index_positions.result (c.index_positions.ensures ps sixteen planes))) in
    let all = each (λ l. mask (is_elsewhere l.px)) (two _ black (one not_8 zero)) (λ l is. or_not (is_blank l.px) (hash l.px == 0)) in
    let set = all.is ∙ themselves (λ p. mask (is_elsewhere p)) [] (pixel 0 0 0 0) ps ∙ sym (map-map mask is_elsewhere ps) in
    blank_stays held (last_pixel before) ps (sym (c.at.ensures held table) ∙ c.is_same.ensures.0 both.0 ∙ c.blank.ensures)
    (sym (c.all_set-2.ensures (map is_elsewhere ps) (length-map ps is_elsewhere ∙ sixteen.long) set) ∙ both.1)
