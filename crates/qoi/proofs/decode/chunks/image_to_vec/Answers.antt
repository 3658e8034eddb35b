-- Each step is filled, but for less than a run, before the vector grows.
use Rattle.std.proofs.Common.{◌≡◌, [], ◌-◌, ◌/◌, ◌%◌, ◌<◌, ◌++◌, length, replicate, refl, sym, ap, ◌∙◌, arith}
use Rattle.std.proofs.lemmas.Result.{IfErr-weaker, err_from_is_err_and, on_ok_weaker}
use Rattle.qoi.specs.inner.Filling.{filling, DecoderBetween}
use Rattle.qoi.proofs.decoding.Grown.{grown, grows, growing_start, lent_back, between_fillable, whole_step, fewer_pixels, at_most, written_most}
use Rattle.qoi.proofs.decoding.Progress.{none_more, none_written, reads_first}
use Rattle.qoi.proofs.decode.chunks.image_to_vec.Given.{Over}
use Rattle.qoi.proofs.decode.chunks.image_to_vec.Goals.{After-deref_mut, After-deref_mut-2}
use Rattle.qoi.proofs.decode.chunks.image_to_vec.Goals as goal

-- a step is whole pixels
whole : (g : Over) (c : After-deref_mut g) → c.grow.new.out.len % g.row.N ≡ 0
whole g c = whole_step g.row.N c.loop-out.out.len c.grow.new.out.len c.requires.channels c.loop-out.invariant.whole (omega (arith, c.grow.ensures.len, c.len-in-loop-out.ensures))

-- before a step is decoded
before : (g : Over) (c : After-deref_mut g) → DecoderBetween g.row.F g.row.N [] (c.grow.new.out.len / g.row.N)
    (g.R.Chunks.ahead c.args.reader.now) (g.R.Chunks.ahead c.loop-out.reader)
    (filling c.loop-out.table c.loop-out.now c.deref_mut.result.now)
before g c =
    let old = c.loop-out.out in
    grown old.items c.deref_mut.result.now old.len c.grow.new.out.len c.requires.channels c.loop-out.invariant.growing old.ok.0
    (omega (arith, c.grow.ensures.len, c.len-in-loop-out.ensures)) (whole g c)
    (c.deref_mut.ensures.value ∙ c.grow.ensures.items ∙ ap (λ z. old.items ++ replicate (z - old.len) 0) (sym c.grow.ensures.len))

-- before the last step is
before_last : (g : Over) (c : After-deref_mut-2 g) → DecoderBetween g.row.F g.row.N [] (c.args.size / g.row.N)
    (g.R.Chunks.ahead c.args.reader.now) (g.R.Chunks.ahead c.loop-out.reader)
    (filling c.loop-out.table c.loop-out.now c.deref_mut-2.result.now)
before_last g c =
    let old = c.loop-out.out in
    grown old.items c.deref_mut-2.result.now old.len c.args.size c.requires.channels c.loop-out.invariant.growing old.ok.0
    c.loop-out.invariant.fits c.requires.whole (c.deref_mut-2.ensures.value ∙ c.grow-2.ensures.items)

pub grow-requires-2-clause-step : goal.grow-requires-2-clause-step
grow-requires-2-clause-step g c = omega (arith, c.loop-out-test.false, c.len.ensures)

pub loop-out-init : goal.loop-out-init
loop-out-init g c = record {
  whole = rw c.requires.empty (none_written g.row.N c.requires.channels);
  fits = omega (arith, c.requires.empty);
  room = c.requires.room;
  within = omega arith;
  filled = omega (arith, c.requires.empty);
  growing = growing_start g.row.F g.row.N (g.R.Chunks.ahead c.args.reader.now) _ _ c.args.out.now.items
      c.requires.channels (sym c.args.out.now.ok.0 ∙ c.requires.empty) c.new-table.ensures c.start-last.ensures;
}

pub some_chunks-requires : goal.some_chunks-requires
some_chunks-requires g c = between_fillable c.requires.channels (before g (goal.at.some_chunks-requires g c).After-deref_mut)

pub returns-in_err-now-clause-refused : goal.returns-in_err-now-clause-refused
returns-in_err-now-clause-refused g c =
    let at = (goal.at.returns-in_err-now-clause-refused g c).After-deref_mut in
    let p = err_from_is_err_and c.from_residual.result c.from_residual.ensures.1 in
    let fewer = fewer_pixels g.row.N c.grow.new.out.len c.args.size c.requires.channels
    (omega (arith, c.loop-out-test.true, c.len.ensures, c.grow.ensures.len, c.len-in-loop-out.ensures)) in
    rw (p.1, p.2) (c.in_err-now.ensures.refused [] _ _ (before g at) _ (rw (none_more (c.grow.new.out.len / g.row.N)) fewer))

pub loop-out-preserved : goal.loop-out-preserved
loop-out-preserved g c =
    let i = c.loop-out.invariant in
    let at = (goal.at.loop-out-preserved g c).After-deref_mut in
    let inside : c.loop-out.now.at < length c.deref_mut.result.now =
    omega (arith, c.requires.channels, i.within, c.deref_mut.ensures.len, c.grow.ensures.len, c.len-in-loop-out.ensures) in
    let left = c.in_ok-now.ensures.read.goes_on.below refl inside in
    let size : c.grow.new.out.len ≡ length c.some_chunks.new.out = omega (arith, c.some_chunks.auto.out, c.deref_mut.ensures.len) in
    record {
      whole = whole g at;
      fits = omega (arith, c.loop-out-test.true, c.len.ensures, c.grow.ensures.len, c.len-in-loop-out.ensures);
      room = omega (arith, i.room, c.grow.ensures.capacity);
      within = omega (arith, left, size);
      filled = omega (arith, c.in_ok-now.ensures.read.filled refl, size);
      growing = rw (lent_back c.grow.new.out.len c.some_chunks.new.out c.grow.new.out.items size) (grows c.requires.channels (c.in_ok-now.ensures.read.goes_on.between [] _ _ (before g at)) left);
    }

pub rest_of_image-requires : goal.rest_of_image-requires
rest_of_image-requires g c = between_fillable c.requires.channels (before_last g (goal.at.rest_of_image-requires g c).After-deref_mut-2)

pub returns-clause-read : goal.returns-clause-read
returns-clause-read g c =
    let at = (goal.at.returns-clause-read g c).After-deref_mut-2 in
    let out = c.rest_of_image.new.out in
    let back = lent_back c.grow-2.new.out.len out c.grow-2.new.out.items (omega (arith, c.rest_of_image.auto.out, c.deref_mut-2.ensures.len)) in
    rw back (on_ok_weaker c.rest_of_image.result (λ r. reads_first (r [] _ _ (before_last g at))) c.rest_of_image.ensures.read)

pub returns-clause-refused : goal.returns-clause-refused
returns-clause-refused g c =
    let at = (goal.at.returns-clause-refused g c).After-deref_mut-2 in
    rw (← none_more (c.args.size / g.row.N)) (IfErr-weaker c.rest_of_image.result _ _ (λ e r. r [] _ _ (before_last g at)) c.rest_of_image.ensures.refused)

pub returns-in_err-now-clause-grown : goal.returns-in_err-now-clause-grown
returns-in_err-now-clause-grown g c =
    let at = (goal.at.returns-in_err-now-clause-grown g c).After-deref_mut in
    at_most _ c.loop-out.now.at _ _ (omega (arith, c.loop-out.invariant.filled, c.grow.ensures.len, c.len-in-loop-out.ensures)) (written_most _ _ c.requires.channels (before g at))

pub returns-clause-grown : goal.returns-clause-grown
returns-clause-grown g c =
    let at = (goal.at.returns-clause-grown g c).After-deref_mut-2 in
    at_most _ c.loop-out.now.at _ _ (omega (arith, c.loop-out.invariant.filled, c.loop-out-test.false, c.len.ensures, c.grow-2.ensures.len)) (written_most _ _ c.requires.channels (before_last g at))
