-- The bytes that are written are the line.
use Rattle.std.proofs.Common.{subst, ◌∙◌}
use Rattle.std.specs.Prelude.{IfErr}
use Rattle.qoi.specs.Errors.{IsIoError}
use Rattle.qoi.specs.Writers.{AppendsBeginning}
use Rattle.qoi_tool.proofs.line.write_line.Goals as goal

pub returns-clause-failed : goal.returns-clause-failed
returns-clause-failed g c =
    subst (λ bytes. IfErr c.write_all.result (λ e. IsIoError e
    × AppendsBeginning (g.W.Write.contents c.args.output.now) (g.W.Write.contents c.write_all.new.output) bytes))
    (c.as_slice.ensures ∙ c.line_of-line.ensures) c.write_all.ensures.failed
