-- The reader stands before the row that many bytes stand behind, and an image of an index isn't refused.
use Rattle.std.proofs.Common.{◌≡◌, ◌∙◌, ◌-◌, ◌*◌, ◌≤◌, List, ℕ, ap, arith, subst}
use Rattle.qoi.specs.DecoderState.{DecoderState}
use Rattle.qoi.specs.Qoi.{Header, Channels, channels_number}
use Rattle.qoi.specs.pieces.PixelReader.{unread_bytes}
use Rattle.qoi.specs.pieces.RowIndex.{ReadsFile}
use Rattle.qoi.proofs.decoding.RowIndexes.{at_row, index_whole}
use Rattle.qoi.proofs.decode.pixel_reader.row_index.RowIndex.rows_in.Goals as goal

-- what holds of the decoder in these channels
in_channels : (P : Channels → Header → Type 0) (channels : Channels) (h : Header) (d e : DecoderState (List ℕ)) → d ≡ record e { channels = channels } → e.header ≡ h
    → P d.channels d.header → P channels h
in_channels P channels h d e is same p = subst (P channels) same (subst (λ (z : DecoderState (List ℕ)). P z.channels z.header) is p)

pub returns-in_err-skip_to-clause-accepts : goal.returns-in_err-skip_to-clause-accepts
returns-in_err-skip_to-clause-accepts c h is index within =
    let file = c.args.file.now in
    let same : c.in_ok-new.field-0.header ≡ h = cc (c.in_ok-new.ensures.accepted.header, is) in
    let reads = in_channels (λ n z. ReadsFile n z file c.in_ok-reader.reader) c.args.channels h c.with_channels-decoder.result c.in_ok-new.field-0 c.with_channels-decoder.ensures same (c.in_ok-reader.ensures.file index) in
    cc (c.in_err-skip_to.ensures.accepts c.args.channels h file reads (index_whole h file c.args.self.now is index))

pub returns-clause-rows : goal.returns-clause-rows
returns-clause-rows c h is index =
    let file = c.args.file.now in
    let k = c.args.first in
    let n = c.args.channels in
    let same : c.in_ok-new.field-0.header ≡ h = cc (c.in_ok-new.ensures.accepted.header, is) in
    let reads = in_channels (λ n z. ReadsFile n z file c.in_ok-reader.reader) n h c.with_channels-decoder.result c.in_ok-new.field-0 c.with_channels-decoder.ensures same (c.in_ok-reader.ensures.file index) in
    let most = in_channels (λ n z. z.width * (z.height - k) * channels_number n ≤ unread_bytes c.in_ok-reader.reader) n h c.with_channels-decoder.result c.in_ok-new.field-0 c.with_channels-decoder.ensures same c.in_ok-reader.ensures.left in
    let own : c.header.result.now ≡ h = c.header.ensures ∙ ap (λ (z : DecoderState (List ℕ)). z.header) c.with_channels-decoder.ensures ∙ same in
    let behind = c.bytes_from.ensures ∙ ap (λ (z : Header). z.width * (z.height - k) * channels_number n) own in
    at_row n h file k c.skip_to.new.reader (c.in_ok-skip_to.ensures.file n h file reads)
    (omega (arith, c.if-first-header.false, ap (λ (z : Header). z.height) own)) (omega (arith, c.in_ok-skip_to.ensures.left, behind, most))
