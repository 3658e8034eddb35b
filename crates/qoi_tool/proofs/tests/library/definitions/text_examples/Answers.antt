-- Each text is computed.
use Rattle.std.proofs.Common.{refl}
use Rattle.std.specs.Fmt.{digits}
use Rattle.qoi_tool.proofs.tests.library.definitions.text_examples.Goals as goal

pub returns : goal.returns
unfolding digits
returns c = record {
  magic = refl;
  channels = refl;
  color_space = refl;
  dimensions = refl;
  image_length = refl;
  buffer = refl;
  buffer_end = refl;
  padding = refl;
  memory = refl;
}
