-- The pixel has the chunk's channels, except alpha for an RGB chunk.
use Rattle.std.proofs.Common.{◌+◌, ◌-◌, get_or, take, drop, length, arith, refl, sym, ap, ◌∙◌}
use Rattle.qoi.specs.inner.Filling.{Progress}
use Rattle.qoi.specs.Qoi.{pixel}
use Rattle.qoi.proofs.decoding.FastSteps.{Stores, full_step}
use Rattle.qoi.proofs.decoding.Vectors.{written_fewer}
use Rattle.qoi.proofs.decode.full_series.Series.take_chunk.Goals as goal

pub returns-clause-step : goal.returns-clause-step
returns-clause-step g c =
    let now = c.args.self.to in
    let bytes = c.args.bytes.now in
    let tag = c.requires.tag in
    let px = c.after_full-last.ensures in
    let rest = take (length bytes - now.taken) (drop now.taken bytes) in
    let size = g.row.TAG - 250 in
    let new : Progress g.row.N g.row.F = record { last = c.after_full-last.result; taken = now.taken + size; at = now.at + g.row.N; next = get_or bytes (now.taken + size) 0 } in
    let stores : Stores 1 bytes now c.args.table.now c.args.out.now new c.put.new.self c.store_full.new.out =
    record { put = c.put.ensures; stored = λ count le. written_fewer c.after_full-last.result now.at 1 count c.requires.ahead.three_or_four le (omega (arith, c.requires.ahead.room_is)) c.store_full.ensures; size = c.store_full.auto.out; next = refl; fits = λ i. omega (arith, c.type_inv.bytes i) } in
    full_step now new size c.requires.ahead (omega arith) stores (omega (arith, tag)) refl refl (λ is. omega (arith, tag.1, is)) (λ is. omega (arith, tag.1, is)) (record {
      rgb = λ is. px.rgb (sym tag.1 ∙ is) ∙ ap (λ a. pixel (get_or rest 1 0) (get_or rest 2 0) (get_or rest 3 0) a) (sym (c.requires.alpha (sym tag.1 ∙ is)));
      rgba = λ is. px.rgba (sym tag.1 ∙ is);
    })
