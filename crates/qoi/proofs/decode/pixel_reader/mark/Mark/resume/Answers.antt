-- What was read before the mark was read by the reader that goes on.
use Rattle.std.proofs.Common.{Some, IfOk, rules, arith, ap, sym, subst}
use Rattle.qoi.specs.pieces.Mark.{MarksRows}
use Rattle.qoi.specs.pieces.PixelReader.{HasGiven, HasRows}
use Rattle.qoi.proofs.decoding.Marks.{goes_on_at}
use Rattle.qoi.proofs.decode.pixel_reader.mark.Mark.resume.Goals as goal

pub returns-clause-same : goal.returns-clause-same
returns-clause-same c = search rules

pub returns-clause-given : goal.returns-clause-given
returns-clause-given c d e bytes given made marks =
    let (within, h) = goes_on_at d e c.args.file.now bytes given c.args.self.now made marks in
    subst (λ r. IfOk r (λ p. HasGiven d (Some bytes) (Some p.reader) given p)) (sym (returns-clause-same c within)) h

pub returns-clause-rows : goal.returns-clause-rows
unfolding HasRows MarksRows
returns-clause-rows c d e bytes stride k made (given, many, marks) = (given, many, returns-clause-given c d e bytes given made marks)

pub returns-then-file-self-clause-accepts : goal.returns-then-file-self-clause-accepts
returns-then-file-self-clause-accepts c d e bytes given made marks =
    absurd (omega (arith, (goes_on_at d e c.args.file.now bytes given c.args.self.now made marks).0, c.if-file-self.true, ap (λ m. m.at) c.self.view_is))
