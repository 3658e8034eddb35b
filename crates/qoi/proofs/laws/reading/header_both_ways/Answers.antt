-- By the lemmas on a header's fourteen bytes.
use Rattle.qoi.proofs.format.HeaderBytes.{length-head, header_of-head, head_from_header_of}
use Rattle.qoi.proofs.laws.reading.header_both_ways.Goals as goal

pub returns : goal.returns
returns c = record { size = length-head; read = header_of-head; only = head_from_header_of }
