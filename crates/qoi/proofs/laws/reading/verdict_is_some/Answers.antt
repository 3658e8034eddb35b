-- By reading chunk after chunk.
use Rattle.qoi.proofs.format.SomeVerdict.{verdict_of}
use Rattle.qoi.proofs.laws.reading.verdict_is_some.Goals as goal

pub returns : goal.returns
returns c = verdict_of
