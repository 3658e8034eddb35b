-- No chunk is decoded.
use Rattle.qoi.proofs.decoding.PieceSteps.{piece_stops}
use Rattle.qoi.proofs.decode.chunks.Chunks.chunks_in_place.Goals as goal

pub returns-clause-takes : goal.returns-clause-takes
returns-clause-takes g c gone n start h =
    piece_stops c.args.out.now c.requires.fillable.three_or_four c.requires.inside h
