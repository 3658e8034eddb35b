-- What a write took moves from the rest to what is written.
use Rattle.std.proofs.Common.{◌≡◌, ◌+◌, ◌-◌, ◌++◌, length, take, drop, refl, sym, ap, ◌∙◌, append_assoc, take-append-drop, arith, length-append, length-take-le}
use Rattle.std.proofs.Math.Seq.{drop-nil}
use Rattle.qoi.specs.Writers.{wrote_laws}
use Rattle.qoi.proofs.writers.GenericWriterWriter.write_many.Goals as goal

pub loop-rest-preserved : goal.loop-rest-preserved
loop-rest-preserved g c =
    let i = c.loop-rest.invariant in
    let rest = c.loop-rest.rest.now in
    let n = c.in_ok-count.count in
    let taken : length (take n rest) ≡ n = length-take-le n rest c.in_ok-count.ensures.bound in
    let counted : (c.loop-rest.self.room - n) + length (take n rest) ≡ c.loop-rest.self.room =
    omega (arith, taken, i.went.counted, c.requires, ap length i.split, length-append i.front rest, c.in_ok-count.ensures.bound) in
    record {
      front = i.front ++ take n rest;
      split = i.split ∙ ap (λ z. i.front ++ z) (sym (take-append-drop n rest)) ∙ sym (append_assoc i.front (take n rest) (drop n rest))
          ∙ ap (λ z. (i.front ++ take n rest) ++ z) (sym c.skip-rest.ensures);
      went = (wrote_laws _ _ _ _).both _ _ _ i.front (take n rest) i.went
          (record { same_writer = refl; appended = c.in_ok-count.ensures.bytes; later = sym (drop-nil _); counted = counted });
    }
