-- One after the other.
use Rattle.qoi.proofs.decoding.PieceSteps.{piece_stops}
use Rattle.qoi.proofs.decode.in_place.take_in_place.Goals as goal

pub returns-then-bytes-lt-INPUT_ROOM-clause-takes : goal.returns-then-bytes-lt-INPUT_ROOM-clause-takes
returns-then-bytes-lt-INPUT_ROOM-clause-takes g c gone n before h =
    piece_stops c.args.out.now c.requires.fillable.three_or_four c.requires.inside h

pub returns-then-is_run_to_end-clause-takes : goal.returns-then-is_run_to_end-clause-takes
returns-then-is_run_to_end-clause-takes g c gone n before h = c.last_run.ensures.takes gone n before (c.chunks_with_room-front.ensures.takes.between gone n before h)

pub returns-clause-takes : goal.returns-clause-takes
returns-clause-takes g c gone n before h =
    c.last_run-2.ensures.takes gone n before (c.chunks_with_room-near.ensures.takes.between gone n before (c.chunks_with_room-front.ensures.takes.between gone n before h))
