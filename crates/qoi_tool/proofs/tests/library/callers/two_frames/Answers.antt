-- What the first decoder leaves is what the second reads.
use Rattle.std.proofs.Common.{◌≡◌, ◌∙◌, ap, Some}
use Rattle.qoi_tool.proofs.tests.library.callers.two_frames.Goals as goal

pub returns : goal.returns
returns g c style other h k raw last one two is_one is_two stand =
    let after_one = rw stand at c.in_ok-first.ensures.accepted.after in
    let made = rw (stand, after_one) at c.in_ok-first.ensures.accepted.image in
    let read = rw after_one at c.in_ok-image.ensures.decoded.image in
    let left : g.R.Read.remaining c.into_reader.result ≡ Some two =
    ap g.R.Read.remaining c.into_reader.ensures ∙ read.1 ∙ ap Some (made.1 ∙ is_one.read_back.rest_then two) in
    let after_two = rw left at c.in_ok-second.ensures.accepted.after in
    let made_two = rw (left, after_two) at c.in_ok-second.ensures.accepted.image in
    let read_two = rw after_two at c.in_ok-other.ensures.decoded.image in
    (read.0 ∙ made.0 ∙ is_one.read_back.image_then two, read_two.0 ∙ made_two.0 ∙ is_two.read_back.image)
