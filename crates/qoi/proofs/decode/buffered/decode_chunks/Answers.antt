-- A chunk more is taken, and then those in the reader's buffer.
use Rattle.std.proofs.Common.{[], arith, rules, refl, nat_eq, not}
use Rattle.qoi.proofs.Results.{if_err}
use Rattle.qoi.specs.inner.Filling.{filling}
use Rattle.qoi.specs.inner.Chunks.{TakesMore}
use Rattle.qoi.proofs.format.PartOfChunk.{part_empty}
use Rattle.qoi.proofs.decoding.Progress.{takes_chunk, more_after}
use Rattle.qoi.proofs.decoding.Grown.{stream_refused}
use Rattle.qoi.proofs.decode.buffered.decode_chunks.Given.{Over}
use Rattle.qoi.proofs.decode.buffered.decode_chunks.Goals.{In_ok-next, then-this-ne0, else-this-ne0}
use Rattle.qoi.proofs.decode.buffered.decode_chunks.Goals as goal

-- a chunk more was taken
more : (g : Over) (c : In_ok-next g) → TakesMore g.row.F g.row.N (not (nat_eq g.row.WHILE_RUNS_FIT 0)) (g.R.Read.remaining c.args.reader.now) (g.R.Read.remaining c.next_chunk.new.reader)
    (filling c.args.table.now c.args.from c.args.out.now) (filling c.next_chunk.new.table c.in_ok-next.next c.next_chunk.new.out)
more g c =
    let (taken, took, decoded) = c.in_ok-next.ensures.read in
    takes_chunk c.loop-out.invariant (elim c.if-this-ne0.branch [ then-this-ne0 w ↦ search rules | else-this-ne0 w ↦ search rules ]) decoded took c.in_ok-next.ensures.more

pub returns-in_err-next-clause-refused : goal.returns-in_err-next-clause-refused
returns-in_err-next-clause-refused g c =
    let f = c.in_err-next.ensures.failed in
    if_err _ (stream_refused _ f.0 c.loop-out.invariant (elim c.if-this-ne0.branch [ then-this-ne0 w ↦ omega arith | else-this-ne0 w ↦ omega arith ]) f.1 f.2)

pub returns-in_err-now-clause-refused : goal.returns-in_err-now-clause-refused
returns-in_err-now-clause-refused g c =
    let now = more g (goal.at.returns-in_err-now-clause-refused g c).In_ok-next in
    if_err _ (stream_refused _ [] now c.in_err-now.ensures.unfilled c.in_err-now.ensures.failed (part_empty [] (omega arith)))

pub loop-out-preserved : goal.loop-out-preserved
loop-out-preserved g c = more_after (λ fit. (fit, refl)) (more g (goal.at.loop-out-preserved g c).In_ok-next) c.in_ok-now.ensures.takes
