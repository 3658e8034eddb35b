-- Copies are kept, and those that have room are given.
use Rattle.qoi.proofs.decoding.GivenMore.{gives_after_none}
use Rattle.qoi.proofs.decode.pixel_reader.unread.Unread.give_run.Goals as goal

pub returns-clause-gives : goal.returns-clause-gives
returns-clause-gives g c now =
    let keeps = c.keep_run.ensures.gives now in
    gives_after_none keeps (c.give.ensures.gives g.row.F g.row.N now keeps.pixels)
