-- A chunk more is taken, or the bytes are cut.
use Rattle.std.proofs.Common.{Some, take, drop, sym, subst, rules, nat_eq, not, take-append-drop}
use Rattle.std.specs.Io.KnownBytes.{Consumes}
use Rattle.qoi.specs.Qoi.{AreBytes}
use Rattle.qoi.specs.inner.Filling.{filling}
use Rattle.qoi.specs.inner.Chunks.{TakesMore}
use Rattle.qoi.proofs.format.SomeVerdict.{bytes_after_front}
use Rattle.qoi.proofs.decoding.Progress.{takes_chunk, few_left}
use Rattle.qoi.proofs.decode.slice.careful_chunks.Goals.{then-this-ne0, else-this-ne0}
use Rattle.qoi.proofs.decode.slice.careful_chunks.Goals as goal

pub loop-out-preserved : goal.loop-out-preserved
loop-out-preserved g c =
    let rest = c.loop-out.rest.now in
    let decoded = c.decode_chunk-decoded.result in
    let taken = decoded.taken in
    let back = c.split_at.ensures.back in
    let took : Consumes (Some rest) (Some (drop taken rest)) (take taken rest) = sym (take-append-drop taken rest) in
    let old = filling c.args.table.now c.args.from c.args.out.now in
    let new = filling c.decode_chunk-decoded.new.table decoded.reached c.decode_chunk-decoded.new.out in
    record {
      fits = subst AreBytes (sym back) (bytes_after_front (take taken rest) (drop taken rest) (subst AreBytes (sym (take-append-drop taken rest)) c.loop-out.invariant.fits));
      goes_on = subst (λ z. TakesMore g.row.F g.row.N (not (nat_eq g.row.WHILE_RUNS_FIT 0)) (Some c.args.data.now) (Some z) old new) (sym back)
          (takes_chunk c.loop-out.invariant.goes_on (elim c.if-this-ne0.branch [ then-this-ne0 w ↦ search rules | else-this-ne0 w ↦ search rules ]) c.decode_chunk-decoded.ensures.decodes took c.decode_chunk-decoded.ensures.more);
    }

pub returns-then-rest-lt-QOI_PADDING_SIZE-clause-refused : goal.returns-then-rest-lt-QOI_PADDING_SIZE-clause-refused
returns-then-rest-lt-QOI_PADDING_SIZE-clause-refused g c gone n start h =
    few_left start c.loop-out.rest.now (c.loop-out.invariant.goes_on.between gone n start h) c.loop-out.invariant.fits c.if-rest-lt-QOI_PADDING_SIZE.true
