-- What the reader showed is what stood ahead, and the chunks at its front are taken.
use Rattle.std.proofs.Common.{subst}
use Rattle.std.specs.Io.BufRead.{FillKeeps}
use Rattle.std.proofs.BufReadLemmas.{Consumes_shown}
use Rattle.qoi.proofs.decoding.Progress.{front_taken}
use Rattle.qoi.proofs.decode.buffered.chunks_in_buffer.Goals as goal

pub returns-clause-takes : goal.returns-clause-takes
returns-clause-takes g c =
    let shown = c.in_ok-bytes.bytes.now in
    let fast = c.fast_chunks-now in
    let rested = c.fill_buf.follows.lender-at-none in
    let filled = subst (FillKeeps _ (g.R.Read.remaining rested) (g.R.BufRead.consumable_len rested)) c.in_ok-bytes.was c.fill_buf.follows.holds-at-none in
    let moved = Consumes_shown _ _ _ _ shown fast.result.taken fast.ensures.within c.in_ok-bytes.ensures.front c.in_ok-bytes.ensures.end filled.0 filled.1 c.consume.ensures.bytes in
    front_taken shown fast.result.taken fast.ensures.takes moved.0
