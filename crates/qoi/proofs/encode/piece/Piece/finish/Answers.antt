-- A full piece goes first, if there is one, and then the rest.
use Rattle.std.proofs.Common.{ℕ, List, ◌-◌, ◌++◌, take, sym, subst, arith}
use Rattle.std.proofs.lemmas.List.{take-take}
use Rattle.std.proofs.lemmas.Result.{err_from_is_err_and, IfErr-weaker, on_ok_weaker}
use Rattle.qoi.specs.Qoi.{end_marker}
use Rattle.qoi.specs.inner.Coder.{kept_bytes, SPARE}
use Rattle.qoi.specs.Writers.{WroteBut, WroteBeginning}
use Rattle.qoi.proofs.encoding.piece.PieceSent.{front_sent, part_of_all}
use Rattle.qoi.proofs.encoding.piece.WriterProgress.{begins_after, but_all, none_but}
use Rattle.qoi.proofs.encode.piece.Piece.finish.Given.{Over}
use Rattle.qoi.proofs.encode.piece.Piece.finish.Goals.{Joined-end, then-end+in_ok-send_front, else-end}
use Rattle.qoi.proofs.encode.piece.Piece.finish.Goals as goal

pub returns-in_err-send_front-clause-refused : goal.returns-in_err-send_front-clause-refused
returns-in_err-send_front-clause-refused g c =
    let p = err_from_is_err_and c.from_residual.result c.from_residual.ensures.1 in
    let r = c.in_err-send_front.ensures.refused in
    let bytes = c.store_marker-end.new.self.bytes.now in
    let end = c.store_marker-end.result in
    let piece = g.row.ROOM - SPARE in
    let began = λ (z : List ℕ). WroteBeginning g.W.Writer.wrote c.args.writer.now z c.send_front.new.writer in
    rw (p.1, p.2) (r.0, subst began c.store_marker-end.ensures.stored (part_of_all piece (take end bytes) (subst began (sym (take-take piece end bytes c.if-end.true)) r.1)))

-- all went but what is kept now
all_but_kept : (g : Over) (c : Joined-end g) → WroteBut g.W.Writer.wrote c.args.writer.now (kept_bytes c.args.self.now ++ end_marker)
    (take c.if-end.end c.if-end.self.bytes.now) c.if-end.writer
all_but_kept g c =
    let wrote = g.W.Writer.wrote in
    let a = c.args.writer.now in
    let bytes = c.store_marker-end.new.self.bytes.now in
    let end = c.store_marker-end.result in
    let piece = g.row.ROOM - SPARE in
    subst (λ z. WroteBut wrote a z (take c.if-end.end c.if-end.self.bytes.now) c.if-end.writer) c.store_marker-end.ensures.stored
    (elim c.if-end.branch [
      | then-end+in_ok-send_front w ↦ rw (w.end-is, w.self-is, w.writer-is)
          (front_sent a w.send_front.new.writer bytes w.send_front.new.bytes piece g.row.ROOM end (omega (arith, c.store_marker-end.new.self.room))
          w.if-end.true (omega (arith, c.store_marker-end.ensures.end, c.args.self.now.within)) w.in_ok-send_front.ensures.written w.in_ok-send_front.ensures.moved)
      | else-end w ↦ rw (w.end-is, w.self-is, w.writer-is) (none_but (g.met.W.Writer.laws.nothing a))
    ])

pub returns-clause-written : goal.returns-clause-written
returns-clause-written g c =
    on_ok_weaker c.write_many.result (but_all g.met.W.Writer.laws.both (all_but_kept g (goal.at.returns-clause-written g c).Joined-end)) c.write_many.ensures.written

pub returns-clause-refused : goal.returns-clause-refused
returns-clause-refused g c =
    let but = all_but_kept g (goal.at.returns-clause-refused g c).Joined-end in
    IfErr-weaker c.write_many.result _ _ (λ e r. (r.0, but_all (begins_after g.met.W.Writer.laws.both) but r.1)) c.write_many.ensures.refused
