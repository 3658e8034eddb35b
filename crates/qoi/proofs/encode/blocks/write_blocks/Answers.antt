-- By blocks, from the last pixel to what is carried, and back.
use Rattle.std.proofs.Common.{◌≡◌, inl, inr, ◌<◌, length, refl, sym, ap, ◌∙◌, arith, subst}
use Rattle.std.proofs.lemmas.Bool.{true≢false}
use Rattle.qoi.specs.Styles.{style_in}
use Rattle.qoi.specs.inner.Coder.{pixels_in}
use Rattle.qoi.specs.inner.Sending.{FillsPiece, ImageState}
use Rattle.qoi.proofs.encoding.coder.CoderLink.{still_between}
use Rattle.qoi.proofs.encoding.piece.ImagePieces.{fills}
use Rattle.qoi.proofs.encode.blocks.write_blocks.Goals.{then-loop-rest-test+else-has_block, else-loop-rest-test}
use Rattle.qoi.proofs.encode.blocks.write_blocks.Goals as goal

pub loop-rest-init : goal.loop-rest-init
loop-rest-init g c = record {
  same = refl;
  less = inr (refl, c.args.piece.not_full);
  written = λ unsent more b. record {
    last = c.args.state.now.last;
    is = c.of-carry.ensures;
    between = b;
    goes = c.requires.goes;
  };
}

pub loop-rest-preserved : goal.loop-rest-preserved
loop-rest-preserved g c =
    let i = c.loop-rest.invariant in
    let step = c.write_front_block.ensures in
    let front = c.in_loop.ensures.rest in
    let size = ap (λ r. length (pixels_in r)) front in
    let style = style_in g.row.STYLE c.args.state.now.style in
    let same : style_in g.row.STYLE c.in_loop.result.style ≡ style = ap (style_in g.row.STYLE) c.in_loop.ensures.style in
    record {
      same = ap (λ (s : ImageState). record s { table = c.write_front_block.new.table }) i.same;
      less = inl (elim i.less [ inl less ↦ omega (arith, step.less, size, less) | inr same ↦ omega (arith, step.less, size, same.0) ]);
      written = λ unsent more b. rw same at
          (step.written unsent (length (pixels_in c.args.raw)) more (omega (arith, ap (λ w. length (pixels_in w)) c.in_loop.ensures.whole)) (rw (same, front, c.open.ensures) (i.written unsent more b)));
    }

pub returns : goal.returns
returns g c =
    let i = c.loop-rest.invariant in
    let after = c.last_pixel-state.ensures in
    let less : length (pixels_in c.loop-rest.rest) < length (pixels_in c.args.raw) = elim i.less [
      | inl less ↦ less
      | inr same ↦ absurd (elim c.loop-rest-test.branch [
        | then-loop-rest-test+else-has_block w ↦ true≢false (sym (w.has_block.ensures.block.1 (omega (arith, same.0, c.requires.block))) ∙ w.if-has_block.false)
        | else-loop-rest-test w ↦ omega (arith, same.1, c.is_full.ensures.full w.loop-rest-test.false)
      ])
    ] in
    subst (λ (s : ImageState). FillsPiece c.args.state.now c.args.piece c.args.raw.bytes.now (record s { last = c.last_pixel-state.result }) (c.loop-rest.piece, c.loop-rest.rest.bytes)) (sym i.same)
    (fills c.args.state.now c.args.piece c.args.raw.bytes.now c.args.raw (c.loop-rest.piece, c.loop-rest.rest.bytes) c.requires.channels c.requires.style refl (record {
      opaque = after.opaque;
      whole = c.loop-rest.rest.whole;
      less = less;
      on = λ unsent more b. still_between after.carried after.begun (inr less) (i.written unsent more b);
    }))
