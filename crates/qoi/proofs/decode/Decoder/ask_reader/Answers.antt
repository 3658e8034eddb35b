-- What the reader gave, and what is kept then.
use Rattle.std.proofs.Common.{◌≡◌, ap, arith}
use Rattle.qoi.specs.inner.Chunks.{conversion_of}
use Rattle.qoi.proofs.decoding.GivenMore.{fills_two}
use Rattle.qoi.proofs.decode.Decoder.ask_reader.Goals as goal

pub returns-clause-step : goal.returns-clause-step
returns-clause-step g c =
    let placed = c.in_ok-given.ensures.step in
    let conversion : c.conversion-conversion.result ≡ conversion_of c.args.self.now = cc in
    let ahead = ap (λ s. g.R.Reader.ahead s.reader) c.self.view_is in
    rw (conversion, ahead) at (fills_two c.give.new.out c.give.result placed (c.give.ensures.gives _ _ _ placed.pixels) c.give.auto.out (omega (arith, c.give.ensures.size, c.give.auto.out, c.in_ok-given.ensures.enough)))
