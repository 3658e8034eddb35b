-- The copies are stored in what is kept.
use Rattle.std.proofs.Common.{◌≤◌, length, arith, rules, refl}
use Rattle.qoi.proofs.decoding.GivenMore.{gives_none}
use Rattle.qoi.proofs.decoding.PieceSteps.{run_kept}
use Rattle.qoi.proofs.decode.pixel_reader.unread.Unread.keep_run.Goals as goal

pub returns-clause-gives : goal.returns-clause-gives
returns-clause-gives g c now =
    let room : 256 ≤ length c.store_run.new.out = omega (arith, c.store_run.auto.out) in
    gives_none (λ n start given h. run_kept c.args.self.now c.store_run.new.out c.requires.channels h c.requires.none c.requires.some c.requires.pixels room c.store_run.ensures)
    (search rules) (search rules) refl
