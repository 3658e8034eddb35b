-- The bytes of these rows are the next ones.
use Rattle.std.proofs.Common.{◌*◌, arith, ap, subst}
use Rattle.std.proofs.lemmas.Result.{on_ok_weaker}
use Rattle.std.proofs.Math.Nat.{mul-le-mul_right}
use Rattle.qoi.specs.pieces.PixelWriter.{and_raw, HasTaken}
use Rattle.qoi.specs.pieces.Copying.{Copies}
use Rattle.qoi.proofs.Copied.{rows_after, rows_are}
use Rattle.qoi.proofs.decode.pixel_reader.PixelReader.copy_rows_to.Goals as goal

pub overflow_mul-count : goal.overflow_mul-count
overflow_mul-count g c = omega (arith, c.bytes_per_row.ensures.most, mul-le-mul_right c.args.rows c.bytes_per_row.ensures.most, c.ranges.rows)

pub returns-clause-copies : goal.returns-clause-copies
returns-clause-copies g c =
    subst (λ n. Copies g.R.Reader.in_memory g.R.Reader.ahead g.W.Write.contents n c.args.self.now c.copy_bytes.new.self c.args.writer.now c.copy_bytes.new.writer c.copy_bytes.result)
    (ap (λ n. n * c.args.rows) c.bytes_per_row.ensures.size) c.copy_bytes.ensures

pub returns-clause-rows : goal.returns-clause-rows
returns-clause-rows g c d start stride k r is =
    on_ok_weaker c.copy_bytes.result
    (λ x. rows_after g.R.Reader.ahead d start stride k c.args.rows x.more c.args.self.now c.copy_bytes.new.self r is x.given x.size)
    (returns-clause-copies g c).copied

pub returns-clause-copied : goal.returns-clause-copied
returns-clause-copied g c =
    on_ok_weaker c.copy_bytes.result
    (λ x. (
      x.more,
      x.taken,
      (λ d bytes stride k r is. rows_are g.R.Reader.ahead d bytes stride k c.args.rows x.more c.args.self.now c.copy_bytes.new.self r is x.given x.size),
      x.given,
      x.size,
    ))
    (returns-clause-copies g c).copied

pub returns-clause-strip : goal.returns-clause-strip
returns-clause-strip g c d bytes stride k e before r is t =
    on_ok_weaker c.copy_bytes.result
    (λ x. subst (λ z. HasTaken g.W.Write.contents (and_raw e z) before c.copy_bytes.new.writer) (x.2 d bytes stride k r is) (x.1 e before t))
    (returns-clause-copied g c)
