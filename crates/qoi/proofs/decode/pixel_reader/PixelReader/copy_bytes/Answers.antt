-- The pieces go one after the other, until one is refused.
use Rattle.std.proofs.Common.{◌+◌, ◌<◌, ◌≤◌, length, take, Err, ap, arith, refl, rules, subst}
use Rattle.qoi.specs.pieces.Copying.{Copies}
use Rattle.qoi.proofs.Copied.{copies_more, copies_none, done}
use Rattle.qoi.proofs.decoding.Refusals.{handed_as}
use Rattle.qoi.proofs.decode.pixel_reader.PixelReader.copy_bytes.Goals as goal

pub loop-rest-init : goal.loop-rest-init
loop-rest-init g c = record { n = 0; count = omega arith; copies = copies_none c.in_ok-check_count.ensures.spent }

pub loop-rest-preserved : goal.loop-rest-preserved
loop-rest-preserved g c =
    let i = c.loop-rest.invariant in
    let now = c.in_ok-copy_piece.ensures in
    let size = length (take c.min-size.result c.loop-rest.buf) in
    let some : 0 < size = search rules in
    let fits : i.n + size ≤ c.args.count = search rules in
    record {
      n = i.n + size;
      count = search rules;
      copies = copies_more size _ i.copies (omega (arith, some)) (omega (arith, fits, c.requires.fits)) (omega (arith, fits, c.in_ok-check_count.ensures.room))
          refl now.copied (λ was. now.spent was some) now.refused now.unchanged;
    }

pub returns-in_err-check_count : goal.returns-in_err-check_count
returns-in_err-check_count g c =
    let many = c.in_err-check_count.ensures.many in
    rw (handed_as _ c.from_residual.ensures.1 refl) (record {
      copied = tt;
      none = λ e before t is. absurd (omega (arith, is, (many e before t).1));
      few = λ less. absurd (omega (arith, less, c.requires.fits));
      many = λ e before t _ _. (ap Err (many e before t).0, refl, refl);
      failed = λ e before f _. (c.in_err-check_count.ensures.spent e before f, refl, refl);
      spent = λ e before t fits _ _ _. absurd (omega (arith, fits, (many e before t).1));
      refused = λ d start given h e before t _ fits. absurd (omega (arith, fits, (many e before t).1));
      unchanged = (refl, refl);
    })

pub returns-in_err-copy_piece : goal.returns-in_err-copy_piece
returns-in_err-copy_piece g c =
    let i = c.loop-rest.invariant in
    let now = c.in_err-copy_piece.ensures in
    let some : 0 < length (take c.min-size.result c.loop-rest.buf) = search rules in
    rw (handed_as _ c.from_residual-in_err-copy_piece.ensures.1 refl)
    (copies_more 0 _ i.copies (omega (arith, i.count, c.loop-rest-test.true)) c.requires.fits c.in_ok-check_count.ensures.room
    tt tt (λ was. now.spent was some) now.refused now.unchanged)

pub returns : goal.returns
returns g c =
    let i = c.loop-rest.invariant in
    subst (λ n. Copies g.R.Reader.in_memory g.R.Reader.ahead g.W.Write.contents n c.args.self.now c.loop-rest.self c.args.writer.now c.loop-rest.writer done)
    (omega (arith, i.count, c.loop-rest-test.false)) i.copies
