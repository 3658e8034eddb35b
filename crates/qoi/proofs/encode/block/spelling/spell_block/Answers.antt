-- The vectors, lane by lane.
use Rattle.std.proofs.Common.{◌==◌, List, map, sym, ap, ◌∙◌}
use Rattle.std.proofs.lemmas.List.{length-map}
use Rattle.std.proofs.lemmas.Simd.{map-map}
use Rattle.qoi.specs.Qoi.{RgbaPixel, hash}
use Rattle.qoi.specs.inner.block.Lanes.{Lane, mask, lanes_of, is_rep}
use Rattle.qoi.specs.inner.block.Vectors.{counts}
use Rattle.qoi.proofs.encoding.lanes.Lanewise.{one, again}
use Rattle.qoi.proofs.encoding.blocks.SpelledBlock.{lanes_long, plane_by, stands_by}
use Rattle.qoi.proofs.encode.block.spelling.spell_block.Goals as goal

pub returns : goal.returns
returns c = λ s ps carry changes b.
    let ls : List Lane = lanes_of s.held s.last ps in
    let red = plane_by s.held s.last ps b.sixteen b.last_is (λ (p : RgbaPixel). p.r) c.args.red b.red_is in
    let d = changes.steps_are in
    let rep = changes.rep_is in
    let same_alpha = again c.where_is-same_alpha.result c.where_is-same_alpha.ensures (one (λ x. mask (x == 0)) d.a_is) in
    let as_diff = c.diff_steps-diff_steps.ensures ls d in
    let as_luma = c.luma_steps-luma_steps.ensures ls d in
    let fits = c.find_fits-fits.ensures ls as_diff as_luma same_alpha in
    let stands = stands_by s.held s.last ps b.sixteen b.last_is c.args.stands b.stands_are in
    let indices = plane_by s.held s.last ps b.sixteen b.last_is hash c.args.indices b.indices_are in
    let first = c.first_bytes-first.ensures ls as_diff as_luma fits stands indices in
    let size = c.sizes_of.ensures ls fits stands in
    let count = c.count_repeats-count.ensures (map is_rep ls) (length-map ls is_rep ∙ lanes_long s.held s.last ps ∙ b.sixteen.long) (rep.is ∙ sym (map-map mask is_rep ls))
    ∙ ap (λ n. counts n (map is_rep ls)) (sym carry) in
    record {
      rep_is = rep.is;
      first_is = c.with_runs.ensures ls s.carry s.named first rep count;
      second_is = (c.second_bytes.ensures ls as_luma red fits.luma_is).is;
      size_is = c.with_zeros.ensures ls size rep;
      count_is = count;
      rgba_is = λ no. cc no;
    }
