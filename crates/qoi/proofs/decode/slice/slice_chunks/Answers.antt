-- The fast loop's chunks are taken, and then others.
use Rattle.std.proofs.Common.{Option, Some, None, IfNone, true}
use Rattle.std.proofs.lemmas.Option.{IfSome_then}
use Rattle.qoi.specs.inner.Filling.{filling}
use Rattle.qoi.specs.inner.Chunks.{TakesMore}
use Rattle.qoi.proofs.decoding.Progress.{chunks_after}
use Rattle.qoi.proofs.decode.slice.slice_chunks.Given.{Over}
use Rattle.qoi.proofs.decode.slice.slice_chunks.Goals.{After-split_at}
use Rattle.qoi.proofs.decode.slice.slice_chunks.Goals as goal

-- after the fast loop
after : (g : Over) (c : After-split_at g) → TakesMore g.row.F g.row.N true (Some c.args.data.now) (Some c.split_at.result.1.now)
    (filling c.args.table.now c.args.from c.args.out.now) (filling c.fast_chunks-now.new.table c.fast_chunks-now.result.reached c.fast_chunks-now.new.out)
after g c = rw c.split_at.ensures.back c.fast_chunks-now.ensures.takes

pub returns-clause-read : goal.returns-clause-read
returns-clause-read g c =
    IfSome_then c.careful_chunks.result c.careful_chunks.ensures.read (λ end r. chunks_after (after g (goal.at.returns-clause-read g c).After-split_at) r)

-- what holds if an option has nothing can be weakened
if_none_of : {T P Q : Type 0} (o : Option T) → (P → Q) → IfNone o P → IfNone o Q
if_none_of (Some x) f p = tt
if_none_of None f p = f p

pub returns-clause-refused : goal.returns-clause-refused
returns-clause-refused g c =
    let so_far = after g (goal.at.returns-clause-refused g c).After-split_at in
    if_none_of c.careful_chunks.result (λ r gone n start h. r gone n start (so_far.between gone n start h)) c.careful_chunks.ensures.refused
