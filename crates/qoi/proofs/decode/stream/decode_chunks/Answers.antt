-- A chunk more is taken.
use Rattle.std.proofs.Common.{arith, rules}
use Rattle.qoi.proofs.Results.{if_err}
use Rattle.qoi.proofs.decoding.Progress.{takes_chunk}
use Rattle.qoi.proofs.decoding.Grown.{stream_refused}
use Rattle.qoi.proofs.decode.stream.decode_chunks.Goals.{then-this-ne0, else-this-ne0}
use Rattle.qoi.proofs.decode.stream.decode_chunks.Goals as goal

pub returns-in_err-now-clause-refused : goal.returns-in_err-now-clause-refused
returns-in_err-now-clause-refused g c =
    let f = c.in_err-now.ensures.failed in
    if_err _ (stream_refused _ f.0 c.loop-now.invariant (elim c.if-this-ne0.branch [ then-this-ne0 w ↦ omega arith | else-this-ne0 w ↦ omega arith ]) f.1 f.2)

pub loop-now-preserved : goal.loop-now-preserved
loop-now-preserved g c =
    let (taken, took, decoded) = c.in_ok-now.ensures.read in
    takes_chunk c.loop-now.invariant (elim c.if-this-ne0.branch [ then-this-ne0 w ↦ search rules | else-this-ne0 w ↦ search rules ]) decoded took c.in_ok-now.ensures.more
