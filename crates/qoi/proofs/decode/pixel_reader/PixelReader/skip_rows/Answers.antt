-- The bytes of these rows are the next ones.
use Rattle.std.proofs.Common.{◌*◌, arith, ap, ◌∙◌}
use Rattle.std.proofs.lemmas.Result.{on_ok_weaker}
use Rattle.std.proofs.Math.Nat.{mul-le-mul_right}
use Rattle.qoi.proofs.Copied.{rows_after}
use Rattle.qoi.proofs.decode.pixel_reader.PixelReader.skip_rows.Goals as goal

pub overflow_mul-count : goal.overflow_mul-count
overflow_mul-count g c = omega (arith, c.bytes_per_row.ensures.most, mul-le-mul_right c.args.rows c.bytes_per_row.ensures.most, c.ranges.rows)

pub returns-clause-rows : goal.returns-clause-rows
returns-clause-rows g c d start stride k r is =
    on_ok_weaker c.skip_bytes.result
    (λ x. rows_after g.R.Reader.ahead d start stride k c.args.rows x.0 c.args.self.now c.skip_bytes.new.self r is x.1
    (x.2 ∙ ap (λ n. n * c.args.rows) c.bytes_per_row.ensures.size))
    c.skip_bytes.ensures.skipped
