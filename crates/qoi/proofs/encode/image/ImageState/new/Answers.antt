-- The coder starts.
use Rattle.std.proofs.Common.{refl}
use Rattle.qoi.proofs.encode.image.ImageState.new.Goals as goal

pub returns : goal.returns
returns c = record {
  channels_is = refl;
  style_is = refl;
  none = c.start.ensures.none;
  state = c.start.ensures.state c.args.style c.new.result c.new.ensures;
}
