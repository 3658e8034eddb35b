-- A piece is read, and written.
use Rattle.std.proofs.Common.{[], inl, inr, take, arith, refl, rules, ap}
use Rattle.std.proofs.lemmas.Grind.{common_steps}
use Rattle.std.proofs.lemmas.List.{length-take-le}
use Rattle.std.proofs.KnownBytes.{Appends-nil}
use Rattle.qoi.proofs.Copied.{stops_at}
use Rattle.qoi.proofs.decoding.Refusals.{handed_as}
use Rattle.qoi.proofs.decode.pixel_reader.PixelReader.copy_raw_piece.Goals as goal

pub returns-in_err-size : goal.returns-in_err-size
returns-in_err-size g c = rw (handed_as _ c.from_residual.ensures.1 refl) (record {
  copied = tt;
  none = λ is. absurd (omega (arith, is, c.requires.some, c.requires.more));
  spent = first_of (search rules, grind (arith, common_steps));
  refused = λ d start given h. ([], inl (stops_at c.requires.short h (c.in_err-size.ensures.refused d start given h) c.in_err-size.ensures.stops, Appends-nil (g.W.Write.contents c.args.out.now)));
  unchanged = first_of (search rules, grind (arith, common_steps));
})

pub returns-in-Err : goal.returns-in-Err
returns-in-Err g c =
    let size = c.in_ok-size.size in
    let long = length-take-le size c.read.new.buf (omega (arith, c.in_ok-size.ensures.size.size, c.read.auto.buf)) in
    record {
      copied = tt;
      none = λ is. absurd (omega (arith, is, c.requires.some, c.requires.more));
      spent = first_of (search rules, grind (arith, common_steps));
      refused = λ d start given h. (
        [],
        inr (
          c.in-Err.ensures.refused.0,
          take size c.read.new.buf,
          g.W.Write.contents c.args.out.now,
          record {
            was = c.read.new.self;
            read = c.in_ok-size.ensures.read d start given h;
            reader = ap (λ x. x.reader) c.refuse_rest.ensures.unchanged;
            spent = c.refuse_rest.ensures.spent;
            left = omega (arith, c.refuse_rest.ensures.left, c.in_ok-size.ensures.size.left, c.left-left.ensures.left, long);
            short = omega (arith, long, c.in_ok-size.ensures.size.size, c.requires.short);
          },
          Appends-nil (g.W.Write.contents c.args.out.now),
          c.in-Err.ensures.refused.1,
        ),
      );
      unchanged = first_of (search rules, grind (arith, common_steps));
    }
