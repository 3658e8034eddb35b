-- The image is read or refused.
use Rattle.std.proofs.Common.{◌≡◌, length, ap, ◌∙◌, arith, subst, length-take-le}
use lib.Seq.{take-append_seam}
use Rattle.qoi.specs.Decoded.{HasDecoded, HasRefused}
use Rattle.qoi.proofs.decoding.Promised.{decoded_in, refused_in}
use Rattle.qoi.proofs.decoding.Refusals.{handed_on, handed_as}
use Rattle.qoi.proofs.decoding.SlicesRefused.{why_refused, decoded_whole}
use Rattle.qoi.proofs.decode.Decoder.decode_to_buf.Given.{Over}
use Rattle.qoi.proofs.decode.Decoder.decode_to_buf.Goals.{After-from_residual}
use Rattle.qoi.proofs.decode.Decoder.decode_to_buf.Goals as goal

-- the image was refused
refused : (g : Over) (c : After-from_residual g) → HasRefused g.R.Reader.in_memory c.args.self.now
    (g.R.Reader.ahead c.args.self.now.reader) (g.R.Reader.ahead c.decode_image_in.new.self) c.in_err-decode_image_in.field-0.0
refused g c =
    refused_in c.args.self.now c.conversion-conversion.ensures (length-take-le c.required_buf_len-size.result c.args.buf.now (omega arith) ∙ c.required_buf_len-size.ensures.bytes)
    (ap (λ s. g.R.Reader.ahead s.reader) c.self.view_is) c.in_err-decode_image_in.ensures.refused

pub returns-in_err-decode_image_in-clause-refused : goal.returns-in_err-decode_image_in-clause-refused
returns-in_err-decode_image_in-clause-refused g c room =
    handed_on _ _ _ c.from_residual.ensures.1 (refused g (goal.at.returns-in_err-decode_image_in-clause-refused g c).After-from_residual)

pub returns-in_err-decode_image_in-clause-why : goal.returns-in_err-decode_image_in-clause-why
returns-in_err-decode_image_in-clause-why g c start told held room =
    handed_on _ _ _ c.from_residual.ensures.1 (why_refused c.args.self.now start held told (refused g (goal.at.returns-in_err-decode_image_in-clause-why g c).After-from_residual)).0

pub returns-in_err-decode_image_in-clause-cut : goal.returns-in_err-decode_image_in-clause-cut
returns-in_err-decode_image_in-clause-cut g c start told held room cut =
    handed_as _ c.from_residual.ensures.1 ((why_refused c.args.self.now start held told (refused g (goal.at.returns-in_err-decode_image_in-clause-cut g c).After-from_residual)).1 cut)

pub returns-in_err-decode_image_in-clause-wrong : goal.returns-in_err-decode_image_in-clause-wrong
returns-in_err-decode_image_in-clause-wrong g c start told held room wrong =
    handed_as _ c.from_residual.ensures.1 ((why_refused c.args.self.now start held told (refused g (goal.at.returns-in_err-decode_image_in-clause-wrong g c).After-from_residual)).2 wrong)

pub returns-clause-decoded : goal.returns-clause-decoded
returns-clause-decoded g c =
    let d = c.args.self.now in
    let size = c.required_buf_len-size.ensures in
    let front = length-take-le c.required_buf_len-size.result c.args.buf.now (omega arith) in
    let same : c.required_buf_len-size.result ≡ length c.decode_image_in.new.out = omega (arith, c.decode_image_in.auto.out, front) in (
      size.bytes,
      subst (HasDecoded d (g.R.Reader.ahead d.reader) (g.R.Reader.ahead c.decode_image_in.new.self)) (grind (arith, same, take-append_seam))
          (decoded_in d c.conversion-conversion.ensures (front ∙ size.bytes) (omega (arith, front, size.some)) (ap (λ s. g.R.Reader.ahead s.reader) c.self.view_is) c.in_ok-decode_image_in.ensures.read),
    )

pub returns-clause-cut : goal.returns-clause-cut
returns-clause-cut g c start told held room cut = absurd ((decoded_whole c.args.self.now start told (returns-clause-decoded g c).1).0 cut)

pub returns-clause-wrong : goal.returns-clause-wrong
returns-clause-wrong g c start told held room wrong = absurd ((decoded_whole c.args.self.now start told (returns-clause-decoded g c).1).1 wrong)
