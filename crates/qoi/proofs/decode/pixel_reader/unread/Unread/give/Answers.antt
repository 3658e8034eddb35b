-- Kept bytes are given.
use Rattle.std.proofs.Common.{◌++◌, drop, arith, rules, refl}
use Rattle.std.proofs.lemmas.Grind.{common_steps}
use Rattle.qoi.proofs.decoding.GivenMore.{gives_kept}
use Rattle.qoi.proofs.decode.pixel_reader.unread.Unread.give.Goals as goal

pub returns-clause-gives : goal.returns-clause-gives
returns-clause-gives c f k now pixels =
    gives_kept c.args.self.now _ c.args.out.now (c.copy_from_slice.new.self ++ drop c.min-size.result c.args.out.now) c.min-size.result pixels (search rules) (grind (arith, common_steps)) refl
