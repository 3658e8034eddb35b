-- Four pixels at a time.
use Rattle.std.proofs.Common.{ℕ, List, map, take, arith, sym, subst, ap, ◌∙◌}
use Rattle.qoi.specs.Raw.{pixels_of, AreOpaque}
use Rattle.qoi.specs.inner.Packed.{word}
use Rattle.qoi.proofs.encoding.blocks.ReadBlock.{sixteen_read, opaque_first}
use Rattle.qoi.proofs.encode.block.reading.first_sixteen.Goals as goal

pub returns-clause-pixels : goal.returns-clause-pixels
returns-clause-pixels g c =
    let four = λ (x : List ℕ). map word (take 4 (pixels_of g.row.N x)) in
    sixteen_read g.row.N c.args.bytes.now c.read_four.result c.read_four-2.result c.read_four-3.result c.read_last_four.result
    c.requires.channels (λ i. omega (arith, c.type_inv.bytes i)) c.requires.enough c.read_four.ensures.lanes
    (c.read_four-2.ensures.lanes ∙ ap four c.skip.ensures)
    (c.read_four-3.ensures.lanes ∙ ap four c.skip-2.ensures)
    c.read_last_four.ensures.lanes

pub returns-clause-opaque : goal.returns-clause-opaque
returns-clause-opaque g c = λ three. subst AreOpaque (sym (returns-clause-pixels g c)) (opaque_first g.row.N c.args.bytes.now three)
