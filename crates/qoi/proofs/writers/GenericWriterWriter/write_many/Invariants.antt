-- All the bytes but the rest are written.
use Rattle.std.proofs.Common.{length}
use Rattle.qoi.specs.Writers.{WroteBut, StreamWrote}
use Rattle.qoi.proofs.writers.GenericWriterWriter.write_many.Given as goal

abbrev pub invariant-loop-rest : goal.invariant-loop-rest
invariant-loop-rest g l = WroteBut (StreamWrote g.W.Write.contents) l.initial.self l.v l.rest l.self

abbrev pub decreases-loop-rest : goal.decreases-loop-rest
decreases-loop-rest g l = length l.rest
