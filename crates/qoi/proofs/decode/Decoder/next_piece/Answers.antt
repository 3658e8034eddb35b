-- What was kept, and what the reader gave then.
use Rattle.std.proofs.Common.{◌≡◌, length, arith, refl, subst}
use Rattle.std.proofs.lemmas.Result.{MatchResult-weaker}
use Rattle.qoi.specs.pieces.Unread.{GivesMore}
use Rattle.qoi.proofs.decoding.GivenMore.{fills_two, refused_two}
use Rattle.qoi.proofs.decode.Decoder.next_piece.Goals as goal

pub returns-then-done-out-clause-step : goal.returns-then-done-out-clause-step
returns-then-done-out-clause-step g c =
    let all : c.give-done.result ≡ length c.give-done.new.out = omega (arith, c.if-done-out.true, c.give-done.auto.out) in
    subst (GivesMore _ _ _ _ _ _ c.give-done.new.out) all (c.give-done.ensures.gives _ _ _ c.requires.pixels)

pub returns-clause-step : goal.returns-clause-step
returns-clause-step g c =
    let front = c.give-done.ensures.gives _ _ _ c.requires.pixels in
    MatchResult-weaker c.ask_reader.result c.ask_reader.ensures.step (λ _ m. fills_two c.ask_reader.new.out _ front m c.ask_reader.auto.out refl) (λ _ m. refused_two c.ask_reader.new.out front m c.ask_reader.auto.out)
