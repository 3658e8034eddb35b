-- What the first decoder leaves is what the second is made from.
use Rattle.std.proofs.Common.{◌≡◌, ◌∙◌, ℕ, List, drop, subst}
use Rattle.qoi.specs.Qoi.{header_size}
use Rattle.qoi.specs.Decoding.{DecodesFile}
use Rattle.qoi_tool.proofs.tests.library.callers.both_images.Goals as goal

pub returns : goal.returns
returns c =
    let bytes = c.args.bytes.now in
    let tail = c.data.result.now in
    let first = c.in_ok-image.ensures.decoded.file bytes (drop header_size bytes) c.in_ok-first.ensures.accepted.made c.in_ok-first.ensures.accepted.after in
    let second = c.in_ok-other.ensures.decoded.file tail (drop header_size tail) c.in_ok-second.ensures.accepted.made c.in_ok-second.ensures.accepted.after in
    let stands = first.1 in
    let left : c.decode_to_vec.new.self.reader ≡ first.0 = cc in
    let P : List ℕ → Type 0 = λ z. DecodesFile z c.in_ok-second.second.header second.0 c.in_ok-other.other.items in
    (c.in_ok-first.first.header, c.in_ok-second.second.header, first.0, second.0, first.2, subst P (c.data.ensures ∙ left) second.2)
