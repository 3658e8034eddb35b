-- The pixel has the chunk's channels, except alpha for an RGB chunk, and the byte after it is picked.
use Rattle.std.proofs.Common.{◌+◌, arith, refl}
use Rattle.qoi.specs.inner.Filling.{Progress}
use Rattle.qoi.proofs.decoding.FastSteps.{Stores, in_vector, full_size, next_byte, full_step}
use Rattle.qoi.proofs.decode.fast.Progress.full_chunk.Goals as goal

pub returns : goal.returns
returns g c =
    let now = c.args.self in
    let bytes = c.args.bytes.now in
    let more = c.from.result in
    let size = full_size now.next more c.requires.ahead.byte c.from.ensures in
    let new : Progress g.row.N g.row.F = record { last = c.after_full-last.result; taken = now.taken + 4 + more; at = now.at + g.row.N; next = c.pick.result } in
    let stores : Stores 1 bytes now c.args.table.now c.args.out.now new c.put.new.self c.store_vector.new.out = record {
      put = c.put.ensures;
      stored = λ count le. c.store_vector.ensures count (omega (arith, le, (in_vector g.row.N c.requires.ahead.three_or_four).0));
      size = c.store_vector.auto.out;
      next = next_byte _ bytes (now.taken + 4) (now.taken + 5) new.taken more c.pick.result (omega arith) refl c.from.ensures c.pick.ensures;
      fits = λ i. omega (arith, c.type_inv.bytes i);
    } in
    full_step now new (4 + more) c.requires.ahead (omega arith) stores c.requires.full refl (omega arith) (λ is. omega (arith, size.0 (omega (arith, is)))) (λ is. omega (arith, size.1 (omega (arith, is))))
    c.after_full-last.ensures
