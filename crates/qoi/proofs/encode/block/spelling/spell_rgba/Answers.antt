-- The vectors are those of RGBA chunks.
use Rattle.std.proofs.Common.{◌≡◌, List, replicate, length, sym, ap, ◌∙◌}
use Rattle.qoi.specs.inner.block.Lanes.{Lane, lanes_of}
use Rattle.qoi.specs.Qoi.{RgbaPixel}
use Rattle.qoi.proofs.encoding.blocks.RgbaBlock.{rgba_lanes, tags_in, sizes_full, none_counted, reds_full}
use Rattle.qoi.proofs.encoding.blocks.SpelledBlock.{lanes_long, lanes_are}
use Rattle.qoi.proofs.encoding.lanes.LaneTests.{themselves}
use Rattle.qoi.proofs.encode.block.spelling.spell_rgba.Goals as goal

pub returns : goal.returns
returns c = λ style s ps sixteen last rep red full.
    let ls : List Lane = lanes_of s.held s.last ps in
    let f = rgba_lanes ls (lanes_are s.held s.last ps last sixteen.are) full in
    let long : length ls ≡ 16 = lanes_long s.held s.last ps ∙ sixteen.long in
    record {
      rep_is = rep;
      first_is = sym (tags_in style s.named s.carry ls f ∙ ap (λ n. replicate n 255) long);
      second_is = red ∙ sym (themselves (λ (p : RgbaPixel). p.r) s.held s.last ps) ∙ sym (reds_full ls f);
      size_is = sym (sizes_full ls f ∙ ap (λ n. replicate n 5) long);
      count_is = sym (none_counted s.carry ls f ∙ ap (λ n. replicate n 0) long);
      rgba_is = λ _. full;
    }
