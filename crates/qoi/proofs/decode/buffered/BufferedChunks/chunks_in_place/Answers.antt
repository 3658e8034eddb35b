-- What the reader showed is what stood ahead, and a piece of it is taken.
use Rattle.std.proofs.Common.{[], sym, subst, arith}
use Rattle.std.specs.Io.BufRead.{FillKeeps}
use Rattle.std.proofs.BufReadLemmas.{Consumes_shown}
use Rattle.std.proofs.KnownBytes.{Consumes-nil, Consumes-kept}
use Rattle.qoi.proofs.format.PartOfChunk.{part_empty}
use Rattle.qoi.proofs.decoding.Progress.{none_taken}
use Rattle.qoi.proofs.decoding.Grown.{stream_refused}
use Rattle.qoi.proofs.decoding.InPlace.{piece_taken}
use Rattle.qoi.proofs.decoding.Refusals.{handed_on}
use Rattle.qoi.proofs.decode.buffered.BufferedChunks.chunks_in_place.Goals as goal

pub returns-in_err-bytes-clause-refused : goal.returns-in_err-bytes-clause-refused
returns-in_err-bytes-clause-refused g c =
    let rested = c.fill_buf.follows.lender-at-none in
    let kept = subst (FillKeeps _ (g.R.Read.remaining rested) (g.R.BufRead.consumable_len rested)) c.in_err-bytes.was c.fill_buf.follows.holds-at-none in
    rw (sym c.self.view_is) (handed_on _ _ _ c.from_residual.ensures.1
    (stream_refused _ [] (none_taken c.requires.fillable) c.requires.inside (Consumes-kept _ _ _ [] (Consumes-nil _) kept.0) (part_empty [] (omega arith)) c.in_err-bytes.field-0.0))

pub returns-then-is_empty-clause-refused : goal.returns-then-is_empty-clause-refused
returns-then-is_empty-clause-refused g c =
    let rested = c.fill_buf.follows.lender-at-none in
    let kept = subst (FillKeeps _ (g.R.Read.remaining rested) (g.R.BufRead.consumable_len rested)) c.in_ok-bytes.was c.fill_buf.follows.holds-at-none in
    rw (sym c.self.view_is) (stream_refused _ [] (none_taken c.requires.fillable) c.requires.inside (Consumes-kept _ _ _ [] (Consumes-nil _) kept.0) (part_empty [] (omega arith)) c.ended.result)

pub returns-clause-takes : goal.returns-clause-takes
returns-clause-takes g c =
    let shown = c.in_ok-bytes.bytes.now in
    let fast = c.take_in_place-now in
    let rested = c.fill_buf.follows.lender-at-none in
    let filled = subst (FillKeeps _ (g.R.Read.remaining rested) (g.R.BufRead.consumable_len rested)) c.in_ok-bytes.was c.fill_buf.follows.holds-at-none in
    let moved = Consumes_shown _ _ _ _ shown fast.result.0.taken fast.ensures.within c.in_ok-bytes.ensures.front c.in_ok-bytes.ensures.end filled.0 filled.1 c.consume.ensures.bytes in
    rw (sym c.self.view_is) (piece_taken _ _ fast.new.out fast.result.0.reached fast.result.1 shown fast.result.0.taken fast.ensures.takes moved.0)
