-- The header, and then what is unsent.
use Rattle.std.proofs.Common.{◌≡◌, ◌-◌, ◌≤◌, ℕ, List, [], Ok, Err, MatchResult, length, sym, ap, ◌∙◌, arith, subst}
use Rattle.qoi.specs.Encoded.{IsFileOf, image_file, max_file_len}
use Rattle.qoi.specs.Writers.{WroteBeginning}
use Rattle.qoi.specs.inner.Sending.{ImageBetween, WritesImage}
use Rattle.qoi.specs.EncoderState.{EncoderState}
use Rattle.qoi.specs.inner.Coder.{kept_bytes}
use Rattle.qoi.proofs.FileOf.{file_of_image}
use Rattle.qoi.proofs.decoding.Refusals.{handed_on}
use Rattle.qoi.proofs.encoding.piece.BytesUnsent.{all_sent, room_end, then_ends, ends_early}
use Rattle.qoi.proofs.encoding.piece.ImagePieces.{image_starts, image_ready, image_ends, new_whole, new_opaque}
use Rattle.qoi.proofs.encoding.piece.PieceSent.{kept_length}
use Rattle.qoi.proofs.encoding.piece.WriterProgress.{begins_after}
use Rattle.qoi.proofs.encode.image.encode_file.Given.{Over}
use Rattle.qoi.proofs.encode.image.encode_file.Goals.{After-new-state}
use Rattle.qoi.proofs.encode.image.encode_file.Goals as goal

pub open-piece-requires : goal.open-piece-requires
open-piece-requires g c = (omega arith, (omega arith, omega (arith, kept_length c.with_header.result, ap length c.with_header.ensures, c.requires.piece.0)))

-- the encoder
abbrev own : (g : Over) → After-new-state g → EncoderState
own g c = record { raw = c.encoder.inside.data.now; header = c.encoder.inside.header; style = c.encoder.inside.style }

-- its file
abbrev made : (g : Over) → After-new-state g → List ℕ
made g c = image_file (own g c).style (own g c).header (own g c).raw

file : (g : Over) (c : After-new-state g) → IsFileOf (own g c).style (own g c).header (own g c).raw (made g c)
file g c = file_of_image (own g c).style (own g c).header (own g c).raw c.encoder.invariant.0 c.encoder.invariant.1 c.encoder.invariant.2

-- the header is in the piece
starts : (g : Over) (c : After-new-state g) → ImageBetween g.W.Writer.wrote (own g c) c.args.writer.now c.args.writer.now c.new-state.result (kept_bytes c.open-piece.result.piece) (own g c).raw
starts g c =
    image_starts (own g c) _ _ c.new-state.result [] _ c.encoder.invariant.2 c.new-state.ensures (sym (c.open-piece.ensures ∙ c.with_header.ensures)) (g.met.W.Writer.laws.nothing c.args.writer.now)

-- it was written, or a beginning of it
writes : (g : Over) (c : After-new-state g) (b : _) (result : _) → MatchResult result (λ n. (n ≡ length (made g c)) × g.W.Writer.wrote c.args.writer.now (made g c) b)
    (λ e. g.W.Writer.IsFault e × WroteBeginning g.W.Writer.wrote c.args.writer.now (made g c) b)
    → WritesImage g.W.Writer.wrote g.W.Writer.IsFault c.args.encoder.now c.args.writer.now b result
writes g c b result went =
    subst (λ s. WritesImage g.W.Writer.wrote g.W.Writer.IsFault s c.args.writer.now b result) c.encoder.view_is (_, file g c, went)

pub write_pixels-requires : goal.write_pixels-requires
write_pixels-requires g c =
    let here = (goal.at.write_pixels-requires g c).After-new-state in
    let new = c.new-state.ensures in
    let fits : length (made g here) ≤ g.W.Writer.room c.args.writer.now = omega (arith, (file g here).is_file.fits, c.requires.room, ap (λ (s : EncoderState). max_file_len s.header) c.encoder.view_is) in
    (omega arith, image_ready (starts g here) (new_opaque new, new_whole c.encoder.inside.header new c.encoder.invariant.1) c.requires.piece.0 fits)

pub finish-requires : goal.finish-requires
finish-requires g c =
    let last = c.write_last_pixels.new.piece in
    let ready = c.in-Ok.ensures.written.1.2 in
    (omega arith, (omega (arith, kept_length last, room_end ready c.write_last_pixels.ensures (omega (arith, kept_length last, last.within))), ready.large))

pub returns-in_err-finish-in-Ok : goal.returns-in_err-finish-in-Ok
returns-in_err-finish-in-Ok g c =
    let here = (goal.at.returns-in_err-finish-in-Ok g c).After-new-state in
    let both = g.met.W.Writer.laws.both in
    let r = c.in_err-finish-in-Ok.ensures.refused in
    writes g here _ _ (handed_on _ _ _ c.from_residual.ensures.1
    (r.0, image_ends (begins_after both) (starts g here) (then_ends both c.in-Ok.ensures.written.0 (begins_after both) (all_sent c.write_last_pixels.ensures r.1))))

pub overflow_sub-result : goal.overflow_sub-result
overflow_sub-result g c =
    let here = (goal.at.overflow_sub-result g c).After-new-state in
    let both = g.met.W.Writer.laws.both in
    let went = image_ends both (starts g here) (then_ends both c.in-Ok.ensures.written.0 both (all_sent c.write_last_pixels.ensures c.in_ok-finish-in-Ok.ensures.written)) in
    omega (arith, c.capacity-room.ensures, c.capacity.ensures, g.met.W.Writer.laws.counts _ _ _ went)

pub returns-in_ok-finish-in-Ok : goal.returns-in_ok-finish-in-Ok
returns-in_ok-finish-in-Ok g c =
    let here = (goal.at.returns-in_ok-finish-in-Ok g c).After-new-state in
    let both = g.met.W.Writer.laws.both in
    let went = image_ends both (starts g here) (then_ends both c.in-Ok.ensures.written.0 both (all_sent c.write_last_pixels.ensures c.in_ok-finish-in-Ok.ensures.written)) in
    let count : c.capacity-room.result - c.capacity.result ≡ length (made g here) = omega (arith, c.capacity-room.ensures, c.capacity.ensures, g.met.W.Writer.laws.counts _ _ _ went) in
    writes g here _ (Ok (c.capacity-room.result - c.capacity.result)) (count, went)

pub returns-in-Err : goal.returns-in-Err
returns-in-Err g c =
    let here = (goal.at.returns-in-Err g c).After-new-state in
    let r = c.in-Err.ensures.written.0 in
    writes g here _ (Err c.in-Err.e) (r.0, image_ends (begins_after g.met.W.Writer.laws.both) (starts g here) (ends_early r.1))
