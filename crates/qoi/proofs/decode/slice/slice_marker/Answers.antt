-- The eight bytes are wrong.
use Rattle.std.proofs.Common.{[], rules}
use Rattle.qoi.proofs.decode.slice.slice_marker.Goals as goal

pub returns-then-number-from_le_bytes-clause-refused : goal.returns-then-number-from_le_bytes-clause-refused
returns-then-number-from_le_bytes-clause-refused c = (c.split_at.result.1.now, ([], c.split_at.result.0.now, search rules))
