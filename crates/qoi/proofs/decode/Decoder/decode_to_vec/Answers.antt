-- The image is read into the vector or refused.
use Rattle.std.proofs.Common.{ap, inr}
use Rattle.qoi.proofs.decoding.Promised.{decoded_in, refused_in}
use Rattle.qoi.proofs.decoding.Refusals.{handed_on}
use Rattle.qoi.proofs.decode.Decoder.decode_to_vec.Goals as goal

pub returns-in_err-decode_image_to_vec-clause-refused : goal.returns-in_err-decode_image_to_vec-clause-refused
returns-in_err-decode_image_to_vec-clause-refused g c =
    handed_on _ _ _ c.from_residual-in_err-decode_image_to_vec.ensures.1 (inr (refused_in c.args.self.now c.conversion-conversion.ensures c.required_buf_len-size.ensures.bytes
    (ap (λ s. g.R.Reader.ahead s.reader) c.self.view_is) c.in_err-decode_image_to_vec.ensures.refused))

pub returns-clause-decoded : goal.returns-clause-decoded
returns-clause-decoded g c =
    decoded_in c.args.self.now c.conversion-conversion.ensures c.required_buf_len-size.ensures.bytes c.required_buf_len-size.ensures.some
    (ap (λ s. g.R.Reader.ahead s.reader) c.self.view_is) c.in_ok-decode_image_to_vec.ensures.read
