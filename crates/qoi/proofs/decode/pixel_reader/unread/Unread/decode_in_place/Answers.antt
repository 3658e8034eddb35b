-- What is left of a run is stored, and what was lent is decoded behind it; a run may have more bytes than
-- have room behind that.
use Rattle.std.proofs.Common.{◌*◌, ◌/◌, length, drop, length-append, arith}
use Rattle.qoi.proofs.decoding.GivenMore.{gives_placed, gives_two, refuses_lent}
use Rattle.qoi.proofs.decoding.PieceSteps.{piece_lent}
use Rattle.qoi.proofs.decode.pixel_reader.unread.Unread.decode_in_place.Goals as goal

pub returns-then-out-lt-LONG_PIECE-clause-step : goal.returns-then-out-lt-LONG_PIECE-clause-step
returns-then-out-lt-LONG_PIECE-clause-step g c = c.give_run.ensures.gives _

pub returns-in-Err-clause-step : goal.returns-in-Err-clause-step
returns-in-Err-clause-step g c =
    refuses_lent c.requires.channels (omega (arith, length-append c.chunks_in_place.new.out (drop (length c.args.out.now / g.row.N * g.row.N) c.store_run.new.out), c.chunks_in_place.auto.out))
    (λ n start given h. piece_lent c.args.self.now c.args.out.now c.store_run.new.out c.requires.channels h c.requires.asks.none c.requires.asks.pixels (omega (arith, c.if-out-lt-LONG_PIECE.false)) (omega (arith, c.if-out-lt-LONG_PIECE.false)) c.store_run.auto.out c.store_run.ensures)
    c.in-Err.ensures.refused c.fail.ensures

pub returns-then-now-out-clause-step : goal.returns-then-now-out-clause-step
returns-then-now-out-clause-step g c =
    gives_placed c.chunks_in_place.new.out _ c.requires.channels c.requires.asks (omega (arith, c.if-out-lt-LONG_PIECE.false)) (omega (arith, c.if-out-lt-LONG_PIECE.false)) c.store_run.auto.out c.store_run.ensures
    c.in-Ok.ensures.takes c.in-Ok.ensures.sizes c.chunks_in_place.auto.out

pub returns-clause-step : goal.returns-clause-step
returns-clause-step g c =
    let placed = gives_placed c.chunks_in_place.new.out _ c.requires.channels c.requires.asks (omega (arith, c.if-out-lt-LONG_PIECE.false)) (omega (arith, c.if-out-lt-LONG_PIECE.false)) c.store_run.auto.out c.store_run.ensures
    c.in-Ok.ensures.takes c.in-Ok.ensures.sizes c.chunks_in_place.auto.out in
    gives_two c.give_run-2.new.out c.give_run-2.result placed (c.give_run-2.ensures.gives _) c.give_run-2.auto.out
