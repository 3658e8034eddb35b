-- The first copies of the run fill the output.
use Rattle.std.proofs.Common.{◌-◌, length, slice_index, arith, refl}
use Rattle.qoi.proofs.decoding.InPlace.{piece_ends, next_taken, times_rest}
use Rattle.qoi.proofs.decoding.PieceSteps.{piece_stops}
use Rattle.qoi.proofs.decode.in_place.last_run.Goals as goal

pub returns-then-not-is_run_to_end-clause-takes : goal.returns-then-not-is_run_to_end-clause-takes
returns-then-not-is_run_to_end-clause-takes g c gone n before h =
    piece_stops c.args.out.now c.requires.room.fillable.three_or_four c.requires.room.inside h

pub returns-clause-takes : goal.returns-clause-takes
returns-clause-takes g c gone n start h =
    let is = c.requires.room.fillable.three_or_four in
    let from = c.args.from in
    let bytes = c.args.bytes.now in
    let b1 = slice_index bytes from.taken in
    let run = c.is_run_to_end.ensures.0 c.if-not-is_run_to_end.false in
    let rest = times_rest g.row.N (length c.args.out.now) from.reached.at is c.requires.room.fillable.whole.0 c.requires.room.fillable.whole.1 in
    piece_ends _ (b1 - 191) c.args.out.now c.store_within.new.out _ _ is c.requires.room.inside h (omega (arith, run)) (omega (arith, run)) c.put.ensures
    (next_taken bytes from.taken (b1 - 191) c.requires.ahead (omega (arith, run)))
    c.store_within.ensures (omega (arith, rest, c.requires.room.inside, c.store_within.auto.out)) refl _ rest run.2 (omega (arith, c.advance.ensures.run run.0 run.1))
