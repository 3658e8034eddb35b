-- A piece is read, and goes to the writer.
use Rattle.std.proofs.Common.{◌≤◌, [], length, inl, inr, append-nil, arith, length-append}
use Rattle.qoi.specs.pieces.PixelWriter.{HasTaken}
use Rattle.qoi.proofs.Copied.{copied_piece, gives_whole, stops_at}
use Rattle.qoi.proofs.Results.{from_both}
use Rattle.qoi.proofs.decoding.Refusals.{handed_on}
use Rattle.qoi.proofs.decode.pixel_reader.PixelReader.copy_piece.Goals as goal

pub returns-in_err-read-clause-refused : goal.returns-in_err-read-clause-refused
returns-in_err-read-clause-refused g c d start given h e before t =
    handed_on _ _ _ c.from_residual.ensures.1
    ([], inl (stops_at c.requires.short h (c.in_err-read.ensures.refused d start given h) c.in_err-read.ensures.stops, rw append-nil t))

pub returns-clause-copied : goal.returns-clause-copied
returns-clause-copied g c =
    let piece = c.read.new.buf in
    let size : length piece ≤ c.in_ok-read.field-0 = omega (arith, c.in_ok-read.ensures.size.size, c.requires.fits, c.read.auto.buf) in
    copied_piece g.R.Reader.ahead g.W.Write.contents _ piece c.args.self.now c.read.new.self c.args.writer.now c.write.new.self c.write.result c.read.auto.buf
    (gives_whole g.R.Reader.ahead c.in_ok-read.field-0 piece c.args.self.now c.read.new.self size c.in_ok-read.ensures.read)
    (omega (arith, size, c.in_ok-read.ensures.size.left, c.in_ok-read.ensures.size.size, c.read.auto.buf)) c.write.ensures.taken c.write.ensures.left

pub returns-clause-refused : goal.returns-clause-refused
unfolding HasTaken
returns-clause-refused g c d start given h e before t =
    let piece = c.read.new.buf in
    let size : length piece ≤ c.in_ok-read.field-0 = omega (arith, c.in_ok-read.ensures.size.size, c.requires.fits, c.read.auto.buf) in
    let read = gives_whole g.R.Reader.ahead c.in_ok-read.field-0 piece c.args.self.now c.read.new.self size c.in_ok-read.ensures.read d start given h in
    from_both c.write.result (c.write.ensures.refused e before t) c.write.ensures.left_stays (λ _ _ _. tt)
    (λ error why left. elim why [
      | inl f ↦ (piece, inr (f.0, read, f.1, omega (arith, f.1.given, left, t.size, length-append e.raw piece, c.requires.short, c.read.auto.buf)))
      | inr many ↦ absurd (omega (arith, many.1, length-append e.raw piece, t.size, c.requires.room, c.read.auto.buf))
    ])
