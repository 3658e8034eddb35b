-- A file is decoded as such; a refusal is the decoder's.
use Rattle.std.proofs.Common.{subst, inl, inr, ⊎_elim, arith}
use Rattle.qoi.specs.Qoi.{pixel_count}
use Rattle.qoi.specs.Decoding.{RefusesBytes}
use Rattle.qoi.proofs.decoding.Promised.{has_decoded_file, has_refused_file}
use Rattle.qoi.proofs.decoding.Refusals.{handed_on}
use Rattle.qoi.proofs.decode.decode_to_vec.Goals as goal

pub returns-in_err-image-clause-refused : goal.returns-in_err-image-clause-refused
returns-in_err-image-clause-refused c =
    handed_on _ _ _ c.from_residual.ensures.1 (inl (has_refused_file _ _ (inl c.in_err-image.ensures.refused)))

pub returns-in_err-raw-clause-refused : goal.returns-in_err-raw-clause-refused
returns-in_err-raw-clause-refused c =
    let d = c.in_ok-image.image in
    let accepted = c.in_ok-image.ensures.accepted in
    handed_on _ _ _ c.from_residual-in_err-raw.ensures.1 (⊎_elim (λ none. inr (none.0, d.header, accepted.header))
    (λ r. inl (has_refused_file _ _ (inr (
      d.header,
      accepted.header,
      subst (λ z. RefusesBytes (pixel_count d.header) z c.in_err-raw.field-0.0) (cc accepted.after) r.why.1,
    )))) c.in_err-raw.ensures.refused)

pub returns-clause-decoded : goal.returns-clause-decoded
returns-clause-decoded c =
    let d = c.in_ok-image.image in
    let accepted = c.in_ok-image.ensures.accepted in
    rw c.header-header.ensures (has_decoded_file c.args.data.now d c.decode_to_vec.new.self.reader c.in_ok-raw.raw.items (λ i. omega (arith, c.type_inv.data i)) accepted.header accepted.channels
    (cc accepted.after) c.in_ok-raw.ensures.decoded)
