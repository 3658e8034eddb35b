-- The bytes are cut.
use Rattle.std.proofs.Common.{sym}
use Rattle.qoi.proofs.decode.slice.BytesChunks.some_chunks.Goals as goal

pub returns-in_default-clause-refused : goal.returns-in_default-clause-refused
returns-in_default-clause-refused g c = rw (sym c.self.view_is) c.in_default.ensures.refused
