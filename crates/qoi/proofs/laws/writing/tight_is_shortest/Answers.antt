-- By the bounds on all lists, and on that of the tight choices.
use Rattle.std.proofs.Common.{arith}
use Rattle.qoi.proofs.encoding.styles.StyleLists.{style_exact}
use Rattle.qoi.proofs.shortness.Lower.{lower0, floor0_high}
use Rattle.qoi.proofs.laws.writing.tight_is_shortest.Goals as goal

pub returns : goal.returns
returns c = record {
  exact = style_exact;
  shortest = λ image cs others w covers. omega (arith, style_exact image cs w, lower0 image others covers);
  floors = floor0_high;
}
