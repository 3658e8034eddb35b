-- The chunk's pixel is the sum, its copies are those of the vector, and the byte after it is picked.
use Rattle.std.proofs.Common.{◌+◌, ◌/◌, arith, refl}
use Rattle.qoi.specs.inner.Filling.{Progress, taken_further}
use Rattle.qoi.proofs.decoding.FirstChunk.{size_of}
use Rattle.qoi.proofs.decoding.FastSteps.{Stores, one_more, next_byte, short_step, step_within}
use Rattle.qoi.proofs.decode.fast.Progress.short_chunk.Goals as goal

pub returns : goal.returns
returns g c =
    let now = taken_further g.row.DONE c.args.self in
    let bytes = c.args.bytes.now in
    let more = c.from.result in
    let luma = c.is_luma-luma.result in
    let new : Progress g.row.N g.row.F = record { last = c.after_short-last.result; taken = c.args.self.taken + more + (g.row.DONE + 1); at = now.at + c.advance.result; next = c.pick.result } in
    let stores : Stores (16 / g.row.N) bytes now c.args.table.now c.args.out.now new c.put.new.self c.store_vector.new.out = record {
      put = c.put.ensures;
      stored = c.store_vector.ensures;
      size = c.store_vector.auto.out;
      next = next_byte luma bytes (now.taken + 1) (now.taken + 2) new.taken more c.pick.result (omega arith) (omega arith) c.from.ensures c.pick.ensures;
      fits = λ i. omega (arith, c.type_inv.bytes i);
    } in
    step_within (short_step now new (1 + more) c.advance.result c.requires.ahead (omega arith) stores c.requires.short refl c.advance.ensures (omega arith)
    (size_of now.next (1 + more) more luma c.is_luma-luma.ensures c.from.ensures (omega arith)) c.after_short-last.ensures)
    (omega arith) (omega (arith, one_more luma more c.from.ensures)) (omega arith)
