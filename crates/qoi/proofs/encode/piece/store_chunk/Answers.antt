-- The number's four bytes, and behind them perhaps the pixel's alpha.
use Rattle.std.proofs.Common.{◌≡◌, arith, ap, ◌∙◌, ◌+◌, take}
use Rattle.qoi.proofs.format.LaneBytes.{chunk_of_four, chunk_of_five, stored}
use Rattle.qoi.proofs.encode.piece.store_chunk.Goals as goal
use Rattle.qoi.proofs.encode.piece.store_chunk.Goals.{then-this-eq4, else-this-eq4}

pub returns-clause-written : goal.returns-clause-written
returns-clause-written g c =
    let at = c.args.at in
    let size = c.args.size in
    let number = c.args.number in
    let whole = λ (out : _) (is : c.if-this-eq4.out ≡ out). ap (take (at + size)) (c.store_number-2.ensures ∙ ap (λ z. stored at z number) is) in
    elim c.if-this-eq4.branch [
      | then-this-eq4 w ↦ whole _ (w.out-is ∙ w.store_number.ensures)
          ∙ chunk_of_five at size number c.args.px c.args.out.now c.requires.room (omega (arith, c.requires.few, w.if-this-eq4.true)) (omega arith)
      | else-this-eq4 w ↦ whole _ w.out-is
          ∙ chunk_of_four at size number _ c.args.out.now (omega (arith, c.requires.room)) (omega (arith, c.requires.few, c.requires.channels, w.if-this-eq4.false))
    ]
