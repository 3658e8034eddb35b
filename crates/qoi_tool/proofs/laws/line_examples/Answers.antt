-- Each line is computed.
use Rattle.std.proofs.Common.{refl}
use Rattle.std.specs.Fmt.{digits}
use Rattle.qoi_tool.proofs.laws.line_examples.Goals as goal

pub returns-clause-one_pixel : goal.returns-clause-one_pixel
unfolding digits
returns-clause-one_pixel c = refl

pub returns-clause-linear : goal.returns-clause-linear
unfolding digits
returns-clause-linear c = refl

pub returns-clause-error_line : goal.returns-clause-error_line
unfolding digits
returns-clause-error_line c = refl
