-- A file is decoded as such; a refusal is the decoder's.
use Rattle.std.proofs.Common.{◌≡◌, ◌<◌, ◌≤◌, ◌⊎◌, ◌∙◌, rules, ℕ, length, take, Some, ap, sym, subst, inl, inr, ⊎_elim, arith}
use Rattle.std.proofs.lemmas.Bool.{cases_lt}
use Rattle.qoi.specs.Qoi.{Header, channels_number, pixel_count}
use Rattle.qoi.specs.Raw.{image_byte_count, byte_count}
use Rattle.qoi.specs.Decoding.{RefusesBuffer, RefusesBytes}
use Rattle.qoi.specs.Decoded.{HasDecoded, HasDecodedFile, HasRefusedFile}
use Rattle.qoi.proofs.decoding.Promised.{has_decoded_file, has_refused_file}
use Rattle.qoi.proofs.decoding.Refusals.{handed_on}
use Rattle.qoi.proofs.decode.decode_to_buf.Goals as goal

-- the buffer is too short, or it isn't
by_size : (n required : ℕ) (P Q : Type 0) → (n < required → P) → (required ≤ n → Q) → Q ⊎ P
by_size n required P Q less enough = ⊎_elim (λ short. inr (less short)) (λ room. inl (enough room)) (cases_lt n required)

pub returns-in_err-image-clause-refused : goal.returns-in_err-image-clause-refused
returns-in_err-image-clause-refused c =
    handed_on _ _ _ c.from_residual.ensures.1 (inl (has_refused_file _ _ (inl c.in_err-image.ensures.refused)))

pub returns-in_err-decode_to_buf-clause-refused : goal.returns-in_err-decode_to_buf-clause-refused
returns-in_err-decode_to_buf-clause-refused c =
    let d = c.in_ok-image.image in
    let accepted = c.in_ok-image.ensures.accepted in
    let e = c.in_err-decode_to_buf.field-0.0 in
    let size : byte_count d.header (channels_number d.channels) ≡ image_byte_count d.header = ap (λ k. byte_count d.header (channels_number k)) accepted.channels in
    let n = length c.args.buf.now in
    let less : n < image_byte_count d.header → RefusesBuffer n (image_byte_count d.header) e =
    (λ short. let is = (c.in_err-decode_to_buf.ensures.short (subst (λ k. n < k) (sym size) short)).0 in (short, cc)) in
    let enough : image_byte_count d.header ≤ n → HasRefusedFile c.args.data.now e =
    (λ room. has_refused_file _ _ (inr (
      d.header,
      accepted.header,
      subst (λ z. RefusesBytes (pixel_count d.header) z e) (cc accepted.after) (c.in_err-decode_to_buf.ensures.refused (subst (λ k. k ≤ n) (sym size) room)).why.1,
    ))) in
    handed_on _ _ _ c.from_residual-in_err-decode_to_buf.ensures.1 (by_size n (image_byte_count d.header) _ _
    (λ short. (d.header, accepted.header, less short)) enough)

pub returns-clause-decoded : goal.returns-clause-decoded
returns-clause-decoded c =
    let d = c.in_ok-image.image in
    let accepted = c.in_ok-image.ensures.accepted in
    let rest = c.decode_to_buf.new.self.reader in
    let decoded = c.in_ok-decode_to_buf.ensures.decoded in
    let buf = c.decode_to_buf.new.buf in
    let same : d.header ≡ c.header-header.result.now = cc in
    let size : c.in_ok-decode_to_buf.field-0 ≡ image_byte_count d.header = decoded.0 ∙ ap (λ k. byte_count d.header (channels_number k)) accepted.channels in
    let file = has_decoded_file c.args.data.now d rest (take (image_byte_count d.header) buf)
    (λ i. omega (arith, c.type_inv.data i)) accepted.header accepted.channels (cc accepted.after)
    (subst (λ z. HasDecoded d (Some d.reader) (Some rest) (take z buf)) size decoded.1) in (
      subst (λ (k : Header). HasDecodedFile c.args.data.now k (take (image_byte_count k) buf)) same file,
      search rules,
    )
