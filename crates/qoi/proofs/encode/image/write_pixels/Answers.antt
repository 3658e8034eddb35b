-- A piece at a time.
use Rattle.std.proofs.Common.{◌-◌, sym, ◌∙◌, arith, subst}
use Rattle.std.proofs.lemmas.Result.{err_from_is_err_and}
use Rattle.qoi.specs.Writers.{WroteBut}
use Rattle.qoi.specs.inner.Coder.{kept_bytes}
use Rattle.qoi.proofs.encoding.piece.BytesUnsent.{then_on, then_breaks, sent_on, sent_part, room_kept, still_ready}
use Rattle.qoi.proofs.encoding.piece.PieceSent.{kept_length, sent_but}
use Rattle.qoi.proofs.encoding.piece.WriterProgress.{none_but}
use Rattle.qoi.proofs.encode.image.write_pixels.Goals.{then-is_full+in_ok-send, else-is_full}
use Rattle.qoi.proofs.encode.image.write_pixels.Goals as goal

pub send-requires : goal.send-requires
send-requires g c =
    let filled = c.fill_piece-next_piece.result.0 in
    let full = c.is_full.ensures.full c.if-is_full.true in
    let room = room_kept c.loop-rest.invariant.ready c.fill_piece-next_piece.ensures.goes (omega (arith, kept_length filled, filled.within)) in
    (omega arith, (full, (omega (arith, full, kept_length filled, room), c.requires.large)))

pub loop-rest-preserved : goal.loop-rest-preserved
loop-rest-preserved g c =
    let laws = g.met.W.Writer.laws in
    let wrote = g.W.Writer.wrote in
    let a = c.loop-rest.writer in
    let was = c.loop-rest.invariant in
    let old = c.fill_piece-next_piece.result.0 in
    let filled = c.fill_piece-next_piece.ensures in
    let but : WroteBut wrote a (kept_bytes old) (kept_bytes c.if-is_full.next_piece) c.if-is_full.writer = elim c.if-is_full.branch [
      | then-is_full+in_ok-send w ↦ rw (w.next_piece-is, w.writer-is)
          (sent_but a w.send.new.writer old w.send.new.self (g.row.ROOM - _) w.in_ok-send.ensures.written w.in_ok-send.ensures.kept)
      | else-is_full w ↦ rw (w.next_piece-is, w.writer-is) (none_but (laws.nothing a))
    ] in
    let now = subst (λ z. WroteBut wrote a (kept_bytes old) z c.if-is_full.writer) (sym c.open-piece.ensures) but in
    let fewer = filled.less in
    record {
      stays = (filled.stays.0 ∙ was.stays.0, filled.stays.1 ∙ was.stays.1);
      left = omega (arith, fewer, was.left);
      ready = still_ready was.ready now.front filled.goes (omega (arith, kept_length old, old.within)) now.split
          (laws.counts a c.if-is_full.writer now.front now.went) fewer filled.whole;
      written = then_on laws.both was.written (sent_on filled.goes filled.whole.0 (filled.whole.1 ∙ sym was.ready.whole.1) now);
    }

pub returns-in_err-send-clause-written : goal.returns-in_err-send-clause-written
returns-in_err-send-clause-written g c =
    let e = err_from_is_err_and c.from_residual.result c.from_residual.ensures.1 in
    let r = c.in_err-send.ensures.refused in
    let goes = c.fill_piece-next_piece.ensures.goes in
    rw (e.1, e.2) ((r.0, then_breaks g.met.W.Writer.laws.both c.loop-rest.invariant.written (sent_part goes r.1)), tt)
