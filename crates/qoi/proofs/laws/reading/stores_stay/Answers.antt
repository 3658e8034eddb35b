-- By the lemmas on frames.
use Rattle.qoi.specs.Tiles.{no_picture}
use Rattle.qoi.proofs.decoding.Frames.{picture_sent, last_picture, pictures_are_frames, frames_have_headers}
use Rattle.qoi.proofs.laws.reading.stores_stay.Goals as goal

pub returns : goal.returns
returns c = record { none = no_picture; put = picture_sent; last = last_picture; frames = pictures_are_frames; pictures = frames_have_headers }
