-- By the lemmas on tiles.
use Rattle.qoi.proofs.decoding.Tiles.{tile_put, file_put, tile_kept, tile_read, tile_within}
use Rattle.qoi.proofs.laws.reading.tiles_stay.Goals as goal

pub returns : goal.returns
returns c = record { put = tile_put; put_file = file_put; kept = tile_kept; read = tile_read; within = tile_within }
