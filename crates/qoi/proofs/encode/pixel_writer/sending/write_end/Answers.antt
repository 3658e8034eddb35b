-- All that was unsent, and the end marker, was sent.
use Rattle.std.proofs.Common.{rules, arith, List, ℕ, [], ◌∙◌, subst}
use Rattle.std.proofs.lemmas.Result.{MatchResult-from_both, MatchResult-weaker}
use Rattle.qoi.specs.inner.Coder.{kept_bytes}
use Rattle.qoi.specs.inner.Sending.{appended, Ends}
use Rattle.qoi.specs.Writers.{WroteBeginning, wrote_laws}
use Rattle.qoi.proofs.encoding.piece.BytesUnsent.{all_sent, room_end, then_ends, ends_early}
use Rattle.qoi.proofs.encoding.piece.PieceSent.{kept_length}
use Rattle.qoi.proofs.encoding.piece.StreamSent.{ends_sent_to, early_sent_to}
use Rattle.qoi.proofs.encoding.piece.WriterProgress.{begins_after}
use Rattle.qoi.proofs.decoding.Refusals.{handed_on}
use Rattle.qoi.proofs.encode.pixel_writer.sending.write_end.Given.{Over}
use Rattle.qoi.proofs.encode.pixel_writer.sending.write_end.Goals.{After-bytes}
use Rattle.qoi.proofs.encode.pixel_writer.sending.write_end.Goals as goal

-- nothing is in the piece before the bytes that were held
starts : (g : Over) (c : After-bytes g) {W : Type 0} (wrote : W → List ℕ → W → Type 0) {a b : W}
    → Ends wrote a c.args.workspace.now.state (kept_bytes c.open-piece.result.piece) c.bytes.result.now b → Ends wrote a c.args.workspace.now.state [] c.args.workspace.now.held b
starts g c wrote {a} {b} e =
    let p = c.args.workspace.now.state in
    subst (λ kept. Ends wrote a p kept c.args.workspace.now.held b) (c.open-piece.ensures ∙ c.new.ensures)
    (subst (λ raw. Ends wrote a p (kept_bytes c.open-piece.result.piece) raw b) c.bytes.ensures.are e)

pub finish-requires : goal.finish-requires
finish-requires g c =
    let last = c.write_last_pixels.new.piece in
    let ready = c.in_ok-left.ensures.written.1.2 in
    (omega arith, (omega (arith, kept_length last, room_end ready c.write_last_pixels.ensures (omega (arith, kept_length last, last.within))), ready.large))

pub returns-in_err-left : goal.returns-in_err-left
returns-in_err-left g c =
    let r = c.in_err-left.ensures.written.0 in
    let here = (goal.at.returns-in_err-left g c).After-bytes in
    handed_on _ _ _ c.from_residual.ensures.1
    (r.0, starts g here (WroteBeginning appended) (early_sent_to g.W.Write.contents c.new-stream.ensures.value (λ same. search rules) (ends_early r.1)))

pub returns : goal.returns
returns g c =
    let here = (goal.at.returns g c).After-bytes in
    let contents = g.W.Write.contents in
    let both = (wrote_laws _ _ _ _).both in
    let went = c.in_ok-left.ensures.written.0 in
    let last = c.write_last_pixels.ensures in
    MatchResult-weaker c.finish.result (MatchResult-from_both c.finish.result _ _ c.finish.ensures.written c.finish.ensures.refused)
    (λ _ end. starts g here appended (ends_sent_to contents c.new-stream.ensures.value (λ same. search rules) (then_ends both went both (all_sent last end))))
    (λ e r. (
      r.0,
      starts g here (WroteBeginning appended)
          (early_sent_to contents c.new-stream.ensures.value (λ same. search rules) (then_ends both went (begins_after both) (all_sent last r.1))),
    ))
