-- What comes is taken.
use Rattle.std.proofs.Common.{[], inl, inr, append-nil, arith, length-append, take}
use Rattle.std.proofs.lemmas.List.{length-take-le}
use Rattle.std.proofs.KnownBytes.{Consumes-nil, Consumes-kept}
use Rattle.qoi.specs.pieces.PixelWriter.{HasTaken}
use Rattle.qoi.proofs.Results.{from_both}
use Rattle.qoi.proofs.decoding.Refusals.{handed_on}
use Rattle.qoi.proofs.encode.pixel_writer.PixelWriter.take_raw_piece.Goals as goal

pub returns-in_err-count-clause-refused : goal.returns-in_err-count-clause-refused
returns-in_err-count-clause-refused g c e before t =
    handed_on _ _ _ c.from_residual.ensures.1
    (tt, [], Consumes-kept _ _ _ _ (Consumes-nil (g.R.Read.remaining c.args.input.now)) c.in_err-count.ensures.bytes, inl (rw append-nil t))

pub returns-clause-refused : goal.returns-clause-refused
unfolding HasTaken
returns-clause-refused g c e before t =
    let came = take c.in_ok-count.count c.read.new.buf in
    let long = length-take-le c.in_ok-count.count c.read.new.buf c.in_ok-count.ensures.bound.0 in
    from_both c.write.result (c.write.ensures.refused e before t) c.write.ensures.left_stays (λ _ _ _. tt)
    (λ error why left. elim why [
      | inl f ↦ (f.0, came, c.in_ok-count.ensures.bytes.0, inr (f.1, omega (arith, f.1.given, left, t.size, length-append e.raw came, long, c.requires.short, c.read.auto.buf, c.in_ok-count.ensures.bound.0)))
      | inr many ↦ absurd (omega (arith, many.1, length-append e.raw came, t.size, c.requires.fits, c.read.auto.buf, c.in_ok-count.ensures.bound.0, long))
    ])
