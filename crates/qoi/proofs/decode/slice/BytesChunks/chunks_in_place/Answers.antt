-- What was decoded is taken from the front of the bytes.
use Rattle.std.proofs.Common.{sym}
use Rattle.qoi.proofs.decode.slice.BytesChunks.chunks_in_place.Goals as goal

pub returns-clause-takes : goal.returns-clause-takes
returns-clause-takes g c = rw (sym c.self.view_is, c.split_at.ensures.back) c.take_in_place-now.ensures.takes
