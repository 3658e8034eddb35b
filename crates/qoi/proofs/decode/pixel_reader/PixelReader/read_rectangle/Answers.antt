-- The parts of these rows are those of the image, and what was refused before is refused.
use Rattle.std.proofs.Common.{◌≡◌, ◌+◌, ◌*◌, ◌≤◌, true, arith, refl, sym, ap, ◌∙◌}
use Rattle.std.proofs.lemmas.Result.{on_ok_weaker, MatchResult-weaker}
use Rattle.std.proofs.KnownBytes.{Keeps-refl}
use Rattle.qoi.specs.Rectangles.{row_size}
use Rattle.qoi.specs.pieces.PixelReader.{HasGiven}
use Rattle.qoi.proofs.Copied.{rows_after}
use Rattle.qoi.proofs.Skipped.{all_filled, rectangle_is, stops_at_once}
use Rattle.qoi.proofs.decode.pixel_reader.PixelReader.read_rectangle.Goals as goal

pub returns-then-stride-count-gt0-clause-refused : goal.returns-then-stride-count-gt0-clause-refused
unfolding HasGiven
returns-then-stride-count-gt0-clause-refused g c d start given h fits = let going = ap (λ s. s.refused) c.self.view_is ∙ h.going in absurd (cc)

pub returns-then-stride-count-gt0-clause-within : goal.returns-then-stride-count-gt0-clause-within
returns-then-stride-count-gt0-clause-within g c fits =
    let rows = ap (λ n. n * c.args.rows) c.bytes_per_row-stride.ensures.size in
    let refused : c.args.self.now.refused ≡ true = sym (ap (λ s. s.refused) c.self.view_is) ∙ c.if-self.true in
    let some = c.if-stride-count-gt0.true in
    stops_at_once (omega (arith, some, rows)) (record { spent = (refused, omega (arith, some, rows, fits.1)); left = refl; kept = λ _. Keeps-refl (g.R.Reader.ahead c.args.self.now.reader) })

pub returns-clause-rows : goal.returns-clause-rows
returns-clause-rows g c d start stride k r is =
    on_ok_weaker c.read_parts.result
    (λ x. rows_after g.R.Reader.ahead d start stride k c.args.rows x.0 c.args.self.now c.read_parts.new.self r is x.1 x.2)
    c.read_parts.ensures.read

pub returns-clause-parts : goal.returns-clause-parts
returns-clause-parts g c d bytes stride k r is filled =
    let fits : c.args.left + c.args.size ≤ row_size c.args.self.now.channels c.args.self.now.header =
    omega (arith, c.if-left-stride.false, c.if-size-stride.false, c.bytes_per_row-stride.ensures.size) in
    on_ok_weaker c.read_parts.result
    (λ x. all_filled c.read_parts.new.out c.args.buf.now (c.args.size * c.args.rows) (omega (arith, filled))
    ∙ rectangle_is g.R.Reader.ahead d bytes stride k c.args.rows c.args.left c.args.size c.read_parts.new.out c.args.self.now c.read_parts.new.self r is fits x)
    c.read_parts.ensures.read

pub returns-clause-refused : goal.returns-clause-refused
returns-clause-refused g c d start given h fits =
    MatchResult-weaker c.read_parts.result c.read_parts.ensures.stops (λ _ _. tt) (λ _ stops. stops.refused d start given h)

pub returns-clause-within : goal.returns-clause-within
returns-clause-within g c fits = MatchResult-weaker c.read_parts.result c.read_parts.ensures.stops (λ _ _. tt) (λ _ stops. stops.within)
