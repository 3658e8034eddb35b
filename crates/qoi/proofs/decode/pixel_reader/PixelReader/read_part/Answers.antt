-- What stands before the part, the part and what stands behind it are read one after the other.
use Rattle.std.proofs.Common.{◌<◌, ◌≤◌, [], ◌++◌, length, arith}
use Rattle.std.proofs.lemmas.List.{length-append}
use Rattle.std.proofs.lemmas.Result.{on_ok_weaker, MatchResult-weaker}
use Rattle.qoi.proofs.decoding.Refusals.{handed_on}
use Rattle.qoi.proofs.Copied.{by_none, gives_both, gives_none, gives_whole}
use Rattle.qoi.proofs.Skipped.{bytes_between, stops_at_once, stops_behind, stops_both}
use Rattle.qoi.proofs.decode.pixel_reader.PixelReader.read_part.Goals as goal

pub returns-in_err-skip_bytes-clause-stops : goal.returns-in_err-skip_bytes-clause-stops
returns-in_err-skip_bytes-clause-stops g c =
    let r = c.in_err-skip_bytes.ensures in
    handed_on _ _ _ c.from_residual.ensures.1
    (stops_behind {n = c.args.left} [] (omega arith) (gives_none g.R.Reader.ahead c.args.self.now) (omega arith) (record { within = r.within; refused = r.refused }))

pub returns-in_err-read-clause-stops : goal.returns-in_err-read-clause-stops
returns-in_err-read-clause-stops g c =
    let r = c.in_err-read.ensures in
    let (more, given, count) = c.in_ok-skip_bytes.ensures.skipped in
    let some : 0 < length c.args.part.now = by_none (length c.args.part.now) (λ z. absurd (cc ((r.none (omega (arith, z))).0))) (λ z. z) in
    handed_on _ _ _ c.from_residual-in_err-read.ensures.1
    (stops_behind {n = length c.args.part.now} more (omega (arith, count)) given (omega (arith, count, c.in_ok-skip_bytes.ensures.left)) (record { within = stops_at_once some r.stops; refused = r.refused }))

pub returns-clause-read : goal.returns-clause-read
returns-clause-read g c =
    let (first, given, count) = c.in_ok-skip_bytes.ensures.skipped in
    let part = c.read.new.buf in
    let size : length part ≤ c.in_ok-read.field-0 = omega (arith, c.in_ok-read.ensures.size.size, c.in_ok-skip_bytes.ensures.left, c.requires, c.read.auto.buf) in
    on_ok_weaker c.skip_bytes-2.result
    (λ x. (
      (first ++ part) ++ x.0,
      gives_both g.R.Reader.ahead (first ++ part) x.0 c.args.self.now c.read.new.self c.skip_bytes-2.new.self
          (gives_both g.R.Reader.ahead first part c.args.self.now c.skip_bytes.new.self c.read.new.self given
          (gives_whole g.R.Reader.ahead c.in_ok-read.field-0 part c.skip_bytes.new.self c.read.new.self size c.in_ok-read.ensures.read))
          x.1,
      omega (arith, length-append (first ++ part) x.0, length-append first part, count, x.2, c.read.auto.buf),
      bytes_between first part x.0 c.args.left (length c.args.part.now) count (omega (arith, c.read.auto.buf)),
    ))
    c.skip_bytes-2.ensures.skipped

pub returns-clause-stops : goal.returns-clause-stops
returns-clause-stops g c =
    let (first, given, count) = c.in_ok-skip_bytes.ensures.skipped in
    let part = c.read.new.buf in
    let size : length part ≤ c.in_ok-read.field-0 = omega (arith, c.in_ok-read.ensures.size.size, c.in_ok-skip_bytes.ensures.left, c.requires, c.read.auto.buf) in
    let both = gives_both g.R.Reader.ahead first part c.args.self.now c.skip_bytes.new.self c.read.new.self given
    (gives_whole g.R.Reader.ahead c.in_ok-read.field-0 part c.skip_bytes.new.self c.read.new.self size c.in_ok-read.ensures.read) in
    let long = length-append first part in
    MatchResult-weaker c.skip_bytes-2.result
    (stops_both g.R.Reader.in_memory g.R.Reader.ahead c.args.right c.read.new.self c.skip_bytes-2.new.self c.skip_bytes-2.result c.skip_bytes-2.ensures.within c.skip_bytes-2.ensures.refused)
    (λ _ _. tt)
    (λ e. stops_behind (first ++ part) (omega (arith, long, count, c.read.auto.buf)) both
    (omega (arith, long, count, c.read.auto.buf, size, c.in_ok-skip_bytes.ensures.left, c.in_ok-read.ensures.size.left, c.in_ok-read.ensures.size.size)))
