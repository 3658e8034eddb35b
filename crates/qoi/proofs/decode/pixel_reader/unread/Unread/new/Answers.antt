-- No chunk was taken and no byte given, and all of the image is unstored.
use Rattle.std.proofs.Common.{◌∙◌, [], sym, ap, subst, refl, arith}
use Rattle.std.proofs.KnownBytes.{Consumes-nil}
use Rattle.qoi.specs.inner.Filling.{DecoderAfter}
use Rattle.qoi.specs.inner.Hashed.{pixel_of_lanes, HoldsSeen}
use Rattle.qoi.proofs.decoding.PieceSteps.{no_copies, none_kept}
use Rattle.qoi.proofs.decode.pixel_reader.unread.Unread.new.Goals as goal

pub returns-clause-start : goal.returns-clause-start
returns-clause-start c f k n start is size =
    let u = c.behind.result in
    let made = c.behind.ensures in
    let after : DecoderAfter start start u.table u.last [] = record {
      cs = [];
      chunks = tt;
      pixels = refl;
      taken = Consumes-nil start;
      has_seen = record { table_is = subst (λ t. HoldsSeen t []) (sym made.chunks.0) c.new.ensures; last_is = ap pixel_of_lanes made.chunks.1 ∙ c.start.ensures };
    } in
    record {
      size = omega (arith, size, made.none.0, made.none.1, made.unstored.1);
      goes_on = λ some. (
        [],
        subst (DecoderAfter start start u.table u.last) (sym (no_copies k u.run u.last [] is made.unstored.0)) after,
        none_kept u [] (omega (arith, made.none.0, made.none.1)),
      );
      ends = λ none. absurd (omega (arith, none, made.unstored.1, c.requires));
    }
