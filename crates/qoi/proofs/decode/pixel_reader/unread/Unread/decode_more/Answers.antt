-- What a piece still lacks is decoded, and kept.
use Rattle.std.proofs.Common.{arith}
use Rattle.qoi.proofs.decoding.Refusals.{handed_on}
use Rattle.qoi.proofs.decoding.GivenMore.{gives_two, gives_then_none, refused_after, refused_two}
use Rattle.qoi.proofs.decode.pixel_reader.unread.Unread.decode_more.Goals as goal

pub returns-in_err-more-clause-step : goal.returns-in_err-more-clause-step
returns-in_err-more-clause-step g c =
    handed_on _ _ _ c.from_residual-in_err-more.ensures.1 (refused_two c.decode_while_runs_fit.new.out c.in_ok-done.ensures.step c.in_err-more.ensures.step c.decode_while_runs_fit.auto.out)

pub returns-in_err-decode_ahead-clause-step : goal.returns-in_err-decode_ahead-clause-step
returns-in_err-decode_ahead-clause-step g c =
    let placed = gives_two c.decode_while_runs_fit.new.out c.in_ok-more.more c.in_ok-done.ensures.step c.in_ok-more.ensures.step c.decode_while_runs_fit.auto.out in
    handed_on _ _ _ c.from_residual-in_err-decode_ahead.ensures.1 (refused_after placed c.in_err-decode_ahead.ensures.step (omega (arith, placed.within)))

pub returns-clause-step : goal.returns-clause-step
returns-clause-step g c =
    let placed = gives_two c.decode_while_runs_fit.new.out c.in_ok-more.more c.in_ok-done.ensures.step c.in_ok-more.ensures.step c.decode_while_runs_fit.auto.out in
    gives_then_none placed c.in_ok-decode_ahead.ensures.step
