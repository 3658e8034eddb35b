-- By the lemmas on frames.
use Rattle.qoi.specs.Tiles.{none}
use Rattle.qoi.proofs.decoding.Frames.{frame_put, last_cut}
use Rattle.qoi.proofs.laws.reading.frames_stay.Goals as goal

pub returns : goal.returns
returns c = record { none = none; put = frame_put; last = last_cut }
