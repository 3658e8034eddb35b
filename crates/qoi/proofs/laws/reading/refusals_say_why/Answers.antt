-- By the lemmas on refused slices.
use Rattle.std.proofs.Common.{inl}
use Rattle.qoi.specs.Decoding.{IsNoFile}
use Rattle.qoi.proofs.decoding.Promised.{has_refused_file}
use Rattle.qoi.proofs.decoding.SlicesRefused.{file_refused, why_no_file}
use Rattle.qoi.proofs.laws.reading.refusals_say_why.Goals as goal

pub returns : goal.returns
unfolding IsNoFile
returns c = record { header = λ bytes e refused. inl refused; ahead = file_refused; only = why_no_file; refused = has_refused_file }
