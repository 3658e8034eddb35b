-- Channel by channel.
use Rattle.std.proofs.Common.{refl, ◌<◌, List, subst, slice_index}
use Rattle.qoi.specs.Qoi.{RgbaPixel, IsPixel}
use Rattle.qoi.specs.inner.block.Vectors.{ArePlanesBy}
use Rattle.qoi.specs.inner.block.Lanes.{Lane, step_of, lanes_of}
use Rattle.qoi.proofs.encoding.blocks.SpelledBlock.{own_planes, before_by}
use Rattle.qoi.proofs.encoding.lanes.BlankLanes.{repeat_lane}
use Rattle.qoi.proofs.encoding.lanes.Lanewise.{each}
use Rattle.qoi.specs.inner.block.Planes.{last_pixel}
use Rattle.qoi.proofs.encode.block.steps.find_changes.Goals as goal

pub returns : goal.returns
returns g c = λ ps sixteen planes held.
    let red = λ (p : RgbaPixel). p.r in
    let green = λ (p : RgbaPixel). p.g in
    let blue = λ (p : RgbaPixel). p.b in
    let opacity = λ (p : RgbaPixel). p.a in
    let q = last_pixel c.args.before in
    let opacity_is = c.known_alpha.ensures.last c.requires.opaque in
    let last : IsPixel q = record {
      r = c.channel_steps.ensures.byte;
      g = c.channel_steps-2.ensures.byte;
      b = c.channel_steps-3.ensures.byte;
      a = subst (λ n. n < 256) opacity_is c.channel_steps-4.ensures.byte;
    } in
    let ls : List Lane = lanes_of held q ps in
    let own = own_planes held q ps sixteen last c.args.p planes in
    let d : ArePlanesBy ls step_of (record { r = c.channel_steps.result; g = c.channel_steps-2.result; b = c.channel_steps-3.result; a = c.channel_steps-4.result }) = record {
      r_is = c.channel_steps.ensures.steps ls red own.r_is (before_by held q ps sixteen last red _ (slice_index c.args.before.r 15) planes.r_is refl);
      g_is = c.channel_steps-2.ensures.steps ls green own.g_is (before_by held q ps sixteen last green _ (slice_index c.args.before.g 15) planes.g_is refl);
      b_is = c.channel_steps-3.ensures.steps ls blue own.b_is (before_by held q ps sixteen last blue _ (slice_index c.args.before.b 15) planes.b_is refl);
      a_is = c.channel_steps-4.ensures.steps ls opacity own.a_is (before_by held q ps sixteen last opacity _ _ planes.a_is opacity_is);
    } in
    record { steps_are = d; rep_is = each _ (c.blanks.ensures ls step_of d) repeat_lane }
