-- By the lemmas on tiles.
use Rattle.qoi.proofs.decoding.Tiles.{picture_put, picture_file, picture_kept}
use Rattle.qoi.proofs.laws.reading.pictures_stay.Goals as goal

pub returns : goal.returns
returns c = record { put = picture_put; put_file = picture_file; kept = picture_kept }
