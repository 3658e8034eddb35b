-- Bytes of less than a pixel are left out.
use Rattle.std.proofs.Common.{ap, ◌∙◌, subst}
use Rattle.qoi.specs.Qoi.{rgba}
use Rattle.qoi.specs.Runs.{IsCount}
use Rattle.qoi.specs.inner.Coder.{pixels_in}
use Rattle.qoi.specs.Raw.{pixels_of}
use Rattle.qoi.proofs.encoding.coder.PixelsIn.{whole_part}
use Rattle.qoi.proofs.encode.repeats.repeats.Goals as goal

pub returns : goal.returns
returns g c =
    let whole = ap (pixels_of g.row.N) (c.new.ensures.bytes ∙ c.split_at.ensures.front) ∙ whole_part g.row.N c.args.data.now c.requires in
    subst (λ ps. IsCount (rgba c.args.px) ps c.repeats_of.result) whole
    (subst (λ p. IsCount p (pixels_in c.new.result) c.repeats_of.result) c.packed.ensures.same c.repeats_of.ensures.counted)
