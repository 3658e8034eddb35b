-- The rows are read one after the other, until one is refused.
use Rattle.std.proofs.Common.{◌≡◌, ◌+◌, ◌*◌, ◌≤◌, ◌++◌, length, take, drop, length-append, arith, rules, ap, ◌∙◌}
use Rattle.std.proofs.lemmas.Grind.{common_steps}
use Rattle.std.proofs.Math.Nat.{mul-suc}
use Rattle.qoi.proofs.decoding.Refusals.{handed_on}
use Rattle.qoi.proofs.format.RectangleLaws.{row_end}
use Rattle.qoi.proofs.Copied.{gives_both}
use Rattle.qoi.proofs.Skipped.{part_long, part_stored, stops_behind}
use Rattle.qoi.proofs.decode.pixel_reader.PixelReader.read_parts.Goals as goal

pub read_part-requires : goal.read_part-requires
read_part-requires g c =
    let row = c.loop-row.row in
    let wide = row_end c.args.size row c.args.rows c.loop-row-test.true in
    let high = row_end c.bytes_per_row-stride.result row c.args.rows c.loop-row-test.true in
    let rows = ap (λ n. n * c.args.rows) c.bytes_per_row-stride.ensures.size in
    omega (arith, part_long c.args.size row c.loop-row.out (omega (arith, wide, c.requires.filled, c.loop-row.auto.out)), high, rows, c.requires.rectangle.0, c.requires.rectangle.1, c.bytes_per_row-stride.ensures.size, c.loop-row.invariant.left)

pub returns-in_err-read_part-clause-stops : goal.returns-in_err-read_part-clause-stops
returns-in_err-read_part-clause-stops g c =
    let i = c.loop-row.invariant in
    let row = c.loop-row.row in
    let wide = row_end c.args.size row c.args.rows c.loop-row-test.true in
    let high = row_end c.bytes_per_row-stride.result row c.args.rows c.loop-row-test.true in
    let rows = ap (λ n. n * c.args.rows) c.bytes_per_row-stride.ensures.size in
    let part = part_long c.args.size row c.loop-row.out (omega (arith, wide, c.requires.filled, c.loop-row.auto.out)) in
    handed_on _ _ _ c.from_residual.ensures.1
    (stops_behind i.more (omega (arith, part, high, rows, i.count, c.requires.rectangle.0, c.bytes_per_row-stride.ensures.size)) i.given (omega (arith, i.count, i.left))
    c.in_err-read_part.ensures.stops)

pub loop-row-preserved : goal.loop-row-preserved
loop-row-preserved g c =
    let i = c.loop-row.invariant in
    let row = c.loop-row.row in
    let stride = c.bytes_per_row-stride.result in
    let (piece, given, count, is) = c.in_ok-read_part.ensures.read in
    let wide = row_end c.args.size row c.args.rows c.loop-row-test.true in
    let fits : c.args.size * row + c.args.size ≤ length c.loop-row.out = omega (arith, wide, c.requires.filled, c.loop-row.auto.out) in
    let part = part_long c.args.size row c.loop-row.out fits in
    let long : length piece ≡ stride = omega (arith, count, part, c.requires.rectangle.0, c.bytes_per_row-stride.ensures.size) in
    record {
      more = i.more ++ piece;
      count = omega (arith, i.count, long, length-append i.more piece, mul-suc stride row);
      given = gives_both g.R.Reader.ahead i.more piece c.args.self.now c.loop-row.self c.read_part.new.self i.given given;
      parts = part_stored stride c.args.left c.args.size row i.more piece c.loop-row.out c.read_part.new.part _ i.count long
          (omega (arith, part, c.read_part.auto.part)) (omega (arith, fits)) (is ∙ ap (λ n. take n (drop c.args.left piece)) part) i.parts;
      left = omega (arith, i.left, long, count, c.in_ok-read_part.ensures.left, mul-suc stride row);
      same = first_of (search rules, grind (arith, common_steps));
      none = λ h. absurd (omega (arith, h));
    }
