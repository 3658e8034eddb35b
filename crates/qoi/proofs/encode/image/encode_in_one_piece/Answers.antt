-- The file of an image in one piece: the header, then all that is unsent before its first pixel, and the end
-- marker.
use Rattle.std.proofs.Common.{◌≡◌, inl, inr, ◌-◌, ◌*◌, ◌<◌, ◌≤◌, ◌++◌, ◌∙◌, List, ℕ, [], length, refl, sym, ap, arith, subst, append_assoc}
use Rattle.std.proofs.lemmas.Bool.{cases_lt}
use Rattle.std.proofs.lemmas.List.{length-take-le}
use Rattle.qoi.specs.Encoded.{IsFileOf, image_file, max_file_len}
use Rattle.qoi.specs.declared.encode.piece.TheConstants.{LEAST_ROOM}
use Rattle.qoi.specs.Qoi.{channels_number}
use Rattle.qoi.specs.inner.Coder.{kept_bytes, SPARE, Piece}
use Rattle.qoi.specs.inner.Sending.{pixel_size, Between, CoderGoes, ImageBetween, ImageState}
use Rattle.qoi.specs.EncoderState.{EncoderState}
use Rattle.qoi.proofs.FileOf.{file_of_image}
use Rattle.qoi.proofs.decoding.ImageSize.{channels_are}
use Rattle.qoi.proofs.decoding.Refusals.{handed_on}
use Rattle.qoi.proofs.encoding.piece.BytesUnsent.{all_sent, goes_to, stands}
use Rattle.qoi.proofs.encoding.piece.ImagePieces.{image_starts, image_kept, image_ends, new_whole, new_opaque}
use Rattle.qoi.proofs.encoding.piece.PieceSent.{kept_length}
use Rattle.qoi.proofs.encode.image.encode_in_one_piece.Given.{Over}
use Rattle.qoi.proofs.encode.image.encode_in_one_piece.Goals.{After-new-state, After-front, then-loop-state-test+else-left-block, else-loop-state-test}
use Rattle.qoi.proofs.encode.image.encode_in_one_piece.Goals as goal

-- the encoder
abbrev own : (g : Over) → After-new-state g → EncoderState
own g c = record { raw = c.encoder.inside.data.now; header = c.encoder.inside.header; style = c.encoder.inside.style }

-- bytes that follow others
abbrev Joined : List ℕ → List ℕ → List ℕ → Type 0
Joined a bytes b = b ≡ a ++ bytes

-- the header is in the piece
starts : (g : Over) (c : After-new-state g) → ImageBetween Joined (own g c) [] [] c.new-state.result (kept_bytes c.with_header-piece.result) (own g c).raw
starts g c = image_starts (own g c) [] [] c.new-state.result [] _ c.encoder.invariant.2 c.new-state.ensures (sym c.with_header-piece.ensures) refl

-- its file
file : (g : Over) (c : After-new-state g) → IsFileOf (own g c).style (own g c).header (own g c).raw (image_file (own g c).style (own g c).header (own g c).raw)
file g c = file_of_image (own g c).style (own g c).header (own g c).raw c.encoder.invariant.0 c.encoder.invariant.1 c.encoder.invariant.2

pub loop-state-init : goal.loop-state-init
loop-state-init g c =
    let new = c.new-state.ensures in
    record {
      stays = (refl, refl);
      goes = stands;
      whole = (new_opaque new, new_whole c.encoder.inside.header new c.encoder.invariant.1);
      less = omega arith;
      same = λ few. refl;
    }

-- the piece isn't full
not_full : (g : Over) (c : After-new-state g) (p : ImageState) (piece : Piece g.row.ROOM) (left : List ℕ)
    → CoderGoes c.new-state.result (kept_bytes c.with_header-piece.result) (own g c).raw p (kept_bytes piece) left
    → (g.row.ROOM ≡ LEAST_ROOM → piece ≡ c.with_header-piece.result) → piece.end < g.row.ROOM - SPARE
not_full g c p piece left goes same = elim (cases_lt LEAST_ROOM g.row.ROOM) [
  | inl more ↦
      omega (arith, kept_length piece, image_kept (starts g c) goes, (file g c).is_file.fits, c.requires.fits more, ap (λ (s : EncoderState). max_file_len s.header) c.encoder.view_is)
  | inr is ↦
      let few : g.row.ROOM ≡ LEAST_ROOM = omega (arith, is, c.requires.piece.0) in
      omega (arith, few, ap (λ (x : Piece g.row.ROOM). x.end) (same few), kept_length c.with_header-piece.result, ap length c.with_header-piece.ensures)
]

pub open-requires : goal.open-requires
open-requires g c =
    let i = c.loop-state.invariant in
    (omega arith, (omega arith, not_full g (goal.at.open-requires g c).After-new-state _ c.loop-state.piece _ i.goes i.same))

pub loop-state-preserved : goal.loop-state-preserved
loop-state-preserved g c =
    let i = c.loop-state.invariant in
    let filled = c.fill_piece.ensures in
    let goes = rw c.open.ensures at filled.goes in
    record {
      stays = (filled.stays.0 ∙ i.stays.0, filled.stays.1 ∙ i.stays.1);
      goes = record { on = λ unsent more s. goes.on unsent more (i.goes.on unsent more s) };
      whole = filled.whole;
      less = omega (arith, filled.less, i.less);
      same = λ few. absurd (omega (arith, few, c.loop-state-test.true));
    }

pub write_last_pixels-requires : goal.write_last_pixels-requires
write_last_pixels-requires g c =
    let i = c.loop-state.invariant in
    let p = c.loop-state.state in
    let few : length c.loop-state.left.now < 16 * pixel_size p = elim c.loop-state-test.branch [
      | then-loop-state-test+else-left-block w ↦ omega (arith, w.if-left-block.false, c.block_size-block.ensures, ap channels_number i.stays.0)
      | else-loop-state-test w ↦ omega (
        arith,
        i.less,
        ap (λ (s : EncoderState). length s.raw) c.encoder.view_is,
        c.requires.few (omega (arith, w.loop-state-test.false)),
        channels_are p.channels (pixel_size p) refl,
      )
    ] in
    (omega arith, (i.whole, (few, not_full g (goal.at.write_last_pixels-requires g c).After-new-state _ c.loop-state.piece _ i.goes i.same)))

-- the piece has the file
made : (g : Over) (c : After-front g) → IsFileOf c.args.encoder.now.style c.args.encoder.now.header c.args.encoder.now.raw c.front.result.now
made g c =
    let here = (goal.at.write_many-requires g c).After-new-state in
    let follows = λ (a b z xs ys : List ℕ) (e : b ≡ a ++ xs) (h : z ≡ b ++ ys). h ∙ ap (λ x. x ++ ys) e ∙ append_assoc a xs ys in
    let ends : (unsent : List ℕ) → Between unsent c.new-state.result (kept_bytes c.with_header-piece.result) (own g here).raw → unsent ≡ kept_bytes c.write_last_pixels.new.piece
    = λ unsent s. c.write_last_pixels.ensures unsent (goes_to c.loop-state.invariant.goes unsent s) in
    let is = c.front.ensures ∙ c.store_marker-end.ensures.stored ∙ image_ends follows (starts g here) (all_sent ends refl) in
    subst (λ (s : EncoderState). IsFileOf s.style s.header s.raw c.front.result.now) c.encoder.view_is
    (subst (IsFileOf (own g here).style (own g here).header (own g here).raw) (sym is) (file g here))

pub write_many-requires : goal.write_many-requires
write_many-requires g c = omega (arith, (made g c).is_file.fits, c.requires.room)

pub returns-in_err-write_many : goal.returns-in_err-write_many
returns-in_err-write_many g c =
    (_, made g (goal.at.returns-in_err-write_many g c).After-front, handed_on _ _ _ c.from_residual.ensures.1 c.in_err-write_many.ensures.refused)

pub returns : goal.returns
returns g c =
    let end = c.store_marker-end.result in
    let piece = c.store_marker-end.new.self in
    let within : end ≤ length piece.bytes.now = omega (arith, c.store_marker-end.ensures.end, c.write_last_pixels.new.piece.within, piece.room) in
    (_, made g (goal.at.returns g c).After-front, (sym (length-take-le end piece.bytes.now within) ∙ ap length (sym c.front.ensures), c.in_ok-write_many.ensures.written))
