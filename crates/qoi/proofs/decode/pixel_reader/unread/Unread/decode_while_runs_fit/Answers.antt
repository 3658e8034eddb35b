-- What was lent is decoded.
use Rattle.std.proofs.Common.{◌≡◌, ℕ, ◌+◌, ◌*◌, ◌/◌, ◌≤◌, List, ◌++◌, take, drop, length, length-append, arith, rules, refl}
use Rattle.qoi.specs.Raw.{IsChannels}
use Rattle.qoi.specs.pieces.Sizes.{decoded_ahead}
use Rattle.qoi.specs.pieces.Unread.{KeepsNothing}
use Rattle.qoi.proofs.decoding.GivenMore.{refuses_lent}
use Rattle.qoi.proofs.decoding.PieceSteps.{front_lent, front_most, long_read, minus_whole}
use Rattle.qoi.proofs.decode.pixel_reader.unread.Unread.decode_while_runs_fit.Goals as goal

-- the output that is lent is no longer than the whole
lent_within : (c : ℕ) (out new : List ℕ) → IsChannels c → length new ≡ length (take (length out / c * c) out)
    → length (take (length out / c * c) out) ≤ length (new ++ drop (length out / c * c) out) + decoded_ahead
lent_within c out new is same = omega (arith, length-append new (drop (length out / c * c) out), same)

pub returns-in-Err-clause-step : goal.returns-in-Err-clause-step
returns-in-Err-clause-step g c =
    refuses_lent c.requires.channels (lent_within g.row.N c.args.out.now c.some_chunks.new.out c.requires.channels c.some_chunks.auto.out) (λ n start given h. front_lent c.args.self.now c.args.out.now c.requires.channels h (c.requires.asks.none, c.requires.run) c.requires.asks.fits (omega (arith, c.if-out-lt-RUN_ROOM.false)))
    c.in-Err.ensures.refused c.fail.ensures

pub returns-clause-step : goal.returns-clause-step
returns-clause-step g c =
    let out = c.args.out.now in
    let long : 256 ≤ length out = omega (arith, c.if-out-lt-RUN_ROOM.false) in
    let most = front_most g.row.N out c.requires.channels in
    let same : KeepsNothing c.args.self.now = (c.requires.asks.none, c.requires.run) in
    let size : length c.some_chunks.new.out ≡ length (take (length out / g.row.N * g.row.N) out) = c.some_chunks.auto.out in
    let pixels = c.requires.asks.pixels in
    let whole = minus_whole g.row.N c.args.self.now.unstored c.in-Ok.now.at c.requires.channels pixels.1 c.in-Ok.ensures.read.goes_on.fillable.whole.1 in
    record {
      read = λ n start given h.
          let l = front_lent c.args.self.now out c.requires.channels h same c.requires.asks.fits (omega (arith, long)) in
          long_read c.some_chunks.new.out _ c.requires.channels h same l (c.in-Ok.ensures.read.goes_on.between l.gone _ _ l.before)
          (c.in-Ok.ensures.read.goes_on.below refl (omega (arith, most, long))) (omega (arith, size, most.0, c.requires.asks.fits, same));
      within = search rules;
      pixels = (pixels.0, whole, pixels.2, pixels.3, λ some. absurd (omega (arith, some, same)));
      left = search rules;
      fault = refl;
    }
