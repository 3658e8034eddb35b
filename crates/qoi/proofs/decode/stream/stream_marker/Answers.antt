-- The eight bytes are wrong.
use Rattle.std.proofs.Common.{[], rules}
use Rattle.qoi.proofs.decode.stream.stream_marker.Goals as goal

pub returns-then-ne-clause-refused : goal.returns-then-ne-clause-refused
returns-then-ne-clause-refused g c = (c.read_exact.new.buf, search rules, ([], c.read_exact.new.buf, search rules))
