-- Lane by lane.
use Rattle.std.proofs.Common.{◌==◌, map, bit_or, sym, ◌∙◌}
use Rattle.std.proofs.lemmas.List.{length-map}
use Rattle.std.proofs.lemmas.Simd.{map-map}
use Rattle.std.proofs.lemmas.List.Folds.{list_all-map}
use Rattle.qoi.specs.inner.block.Vectors.{is_rgba}
use Rattle.qoi.specs.inner.block.Lanes.{Lane, mask, same_alpha}
use Rattle.qoi.proofs.encoding.blocks.RgbaBlock.{neither}
use Rattle.qoi.proofs.encoding.lanes.Lanewise.{two, one, each, again, not_8}
use Rattle.qoi.proofs.encode.block.spelling.are_all_rgba.Goals as goal

pub returns : goal.returns
returns c = λ ls alpha stands full.
    let kept = again c.where_is.result c.where_is.ensures (one (λ x. mask (x == 0)) alpha) in
    let all = each (λ l. mask (is_rgba l)) (one not_8 (two bit_or kept stands)) (λ (l : Lane) is. neither (same_alpha l) l.stands) in
    sym (c.all_set.ensures (map is_rgba ls) (length-map ls is_rgba ∙ all.long) (all.is ∙ sym (map-map mask is_rgba ls)) ∙ list_all-map (λ b. b) is_rgba ls) ∙ full
