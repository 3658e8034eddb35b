-- A line that was written in part.
use Rattle.std.proofs.Common.{◌≡◌, length, refl, sym, inr}
use Rattle.std.proofs.lemmas.Result.{IfErr-weaker}
use Rattle.qoi_tool.specs.declared.command.Command.TheVariants.{Info}
use Rattle.qoi_tool.specs.Answers.{Stops}
use Rattle.qoi_tool.specs.Lines.{header_line}
use Rattle.qoi_tool.proofs.info.Goals as goal

pub returns-clause-refused : goal.returns-clause-refused
returns-clause-refused g c =
    let h = c.in_ok-header.header in
    let bytes = c.read_exact.new.buf in
    let size : length bytes ≡ 14 = c.in_ok-read_exact.ensures.size in
    IfErr-weaker c.write_line.result _ (Stops Info (g.R.Read.remaining c.args.input.now) (g.R.Read.remaining c.read_exact.new.input)
    (g.W.Write.contents c.args.output.now) (g.W.Write.contents c.write_line.new.output))
    (λ e failed. inr (inr (
      failed.0,
      (
        bytes,
        header_line h,
        (c.in_ok-read_exact.ensures.read, size),
        (h, sym c.in_ok-header.ensures, refl),
        failed.1,
      ),
    ))) c.write_line.ensures.failed
