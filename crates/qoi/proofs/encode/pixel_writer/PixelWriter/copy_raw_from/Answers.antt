-- The pieces come one after the other, until one is refused; a writer that failed before takes none.
use Rattle.std.proofs.Common.{refl}
use Rattle.qoi.proofs.Copied.{input_breaks_later}
use Rattle.qoi.proofs.decoding.Refusals.{handed_as, handed_on}
use Rattle.qoi.specs.pieces.PixelWriter.{and_raw}
use Rattle.qoi.proofs.encode.pixel_writer.PixelWriter.copy_raw_from.Goals as goal

pub returns-in_err-check_count-clause-spent : goal.returns-in_err-check_count-clause-spent
returns-in_err-check_count-clause-spent g c e before f = rw (handed_as _ c.from_residual.ensures.1 refl) (c.in_err-check_count.ensures.spent e before f, refl, refl)

pub returns-in_err-take_raw_piece-clause-refused : goal.returns-in_err-take_raw_piece-clause-refused
returns-in_err-take_raw_piece-clause-refused g c e before t =
    let (raw, came, taken) = c.loop-buf.invariant.taken e before t in
    handed_on _ _ _ c.from_residual-in_err-take_raw_piece.ensures.1
    (input_breaks_later g.W.Write.contents (g.R.Read.remaining c.args.input.now) (g.R.Read.remaining c.loop-buf.input)
    (g.R.Read.remaining c.take_raw_piece.new.input) e before raw c.take_raw_piece.new.self _ came
    (c.in_err-take_raw_piece.ensures.refused (and_raw e raw) before taken))

pub returns-in_err-take_raw_piece-clause-spent : goal.returns-in_err-take_raw_piece-clause-spent
returns-in_err-take_raw_piece-clause-spent g c e before f = absurd (c.in_ok-check_count.ensures.spent e before f)

pub returns-clause-spent : goal.returns-clause-spent
returns-clause-spent g c e before f = absurd (c.in_ok-check_count.ensures.spent e before f)
