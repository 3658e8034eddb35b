-- By the lemma on two files that begin alike.
use Rattle.qoi.proofs.decoding.FrontImage.{file_is_one}
use Rattle.qoi.proofs.laws.reading.no_file_begins_another.Goals as goal

pub returns : goal.returns
returns c = file_is_one
