-- A full piece was sent, and the bytes after it stand at the front.
use Rattle.std.proofs.Common.{◌-◌}
use Rattle.std.proofs.lemmas.List.{take-take}
use Rattle.std.proofs.lemmas.Result.{err_from_is_err_and}
use Rattle.qoi.specs.inner.Coder.{kept_bytes, SPARE}
use Rattle.qoi.proofs.encoding.piece.PieceSent.{part_of_all}
use Rattle.qoi.proofs.encode.piece.Piece.send.Goals as goal

pub returns-in_err-send_front-clause-refused : goal.returns-in_err-send_front-clause-refused
returns-in_err-send_front-clause-refused g c =
    let p = err_from_is_err_and c.from_residual.result c.from_residual.ensures.1 in
    let r = c.in_err-send_front.ensures.refused in
    let s = c.args.self.now in
    let full = g.row.ROOM - SPARE in
    rw (p.1, p.2) (r.0, part_of_all full (kept_bytes s) (rw (take-take full s.end s.bytes.now c.requires.full) r.1))
