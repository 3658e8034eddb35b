-- The pieces are read one after the other, until one is refused.
use Rattle.std.proofs.Common.{◌++◌, take, length-append, length-take, arith, rules}
use Rattle.std.proofs.lemmas.Grind.{common_steps}
use Rattle.qoi.proofs.Copied.{gives_both, refused_sooner}
use Rattle.qoi.proofs.decoding.Refusals.{handed_on}
use Rattle.qoi.proofs.decode.pixel_reader.PixelReader.skip_bytes.Goals as goal

pub returns-in_err-rest-clause-refused : goal.returns-in_err-rest-clause-refused
returns-in_err-rest-clause-refused g c d start given h =
    let i = c.loop-rest.invariant in
    handed_on _ _ _ c.from_residual.ensures.1
    (refused_sooner g.R.Reader.in_memory d start given i.more _ c.args.count _ _
    (omega (arith, i.count, length-take c.min-size.result c.loop-rest.buf, c.min-size.ensures))
    (c.in_err-rest.ensures.refused d start (given ++ i.more) (i.given d start given h)))

pub returns-in_err-rest-clause-within : goal.returns-in_err-rest-clause-within
returns-in_err-rest-clause-within g c =
    let i = c.loop-rest.invariant in
    handed_on _ _ _ c.from_residual.ensures.1 (record {
      was = c.loop-rest.self;
      more = i.more;
      given = i.given;
      fewer = omega (arith, i.count, c.loop-rest-test.true);
      before = omega (arith, i.count, i.left);
      spent = c.in_err-rest.ensures.stops.spent;
      left = c.in_err-rest.ensures.stops.left;
      kept = c.in_err-rest.ensures.stops.kept;
    })

pub loop-rest-preserved : goal.loop-rest-preserved
loop-rest-preserved g c =
    let i = c.loop-rest.invariant in
    let piece = take c.in_ok-rest.field-0 c.read.new.buf in
    record {
      more = i.more ++ piece;
      count = omega (arith, i.count, length-append i.more piece, length-take c.in_ok-rest.field-0 c.read.new.buf, c.read.auto.buf, c.in_ok-rest.ensures.size.size, length-take c.min-size.result c.loop-rest.buf, c.min-size.ensures);
      given = gives_both g.R.Reader.ahead i.more piece c.args.self.now c.loop-rest.self c.read.new.self i.given c.in_ok-rest.ensures.read;
      left = first_of (search rules, grind (arith, common_steps));
      same = first_of (search rules, grind (arith, common_steps));
      none = λ h. absurd (omega (arith, h, i.count, c.loop-rest-test.true));
      spent = first_of (search rules, grind (arith, common_steps));
    }
