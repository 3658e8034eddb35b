-- The loop ends at another pixel, or if none is left.
use Rattle.std.proofs.Common.{◌≡◌, List, [], ◌∷◌, Some, drop, false, true, refl, sym, ap, ◌∙◌}
use Rattle.std.proofs.lemmas.Option.{same_Some}
use Rattle.std.specs.List.{slice_get}
use Rattle.qoi.specs.Qoi.{RgbaPixel}
use Rattle.qoi.specs.inner.Coder.{pixels_in}
use Rattle.qoi.proofs.encoding.lists.GroupRuns.{count_of, repeats_on}
use Rattle.qoi.proofs.encode.repeats.count_pixels.Goals as goal

-- the first of them
first_is : (p : RgbaPixel) (ps : List RgbaPixel) → slice_get ps 0 ≡ Some p → ps ≡ p ∷ drop 1 ps
first_is p [] e = absurd (let no = e in cc)
first_is p (q ∷ ps) e = ap (λ z. z ∷ ps) (same_Some _ _ e)

pub loop-rest-preserved : goal.loop-rest-preserved
loop-rest-preserved g c =
    let after = c.skip-rest.ensures in
    let first = first_is c.args.px (pixels_in c.loop-rest.rest) (c.loop-rest-test.ensures.0 refl) in
    repeats_on _ 1 (pixels_in c.args.raw) (pixels_in c.loop-rest.rest) (pixels_in c.skip-rest.result) c.args.px c.loop-rest.count c.loop-rest.invariant
    after.size (first ∙ ap (λ z. c.args.px ∷ z) (sym after.rest))

pub returns-clause-counted : goal.returns-clause-counted
returns-clause-counted g c =
    count_of c.args.px (pixels_in c.args.raw) (pixels_in c.loop-rest.rest) c.loop-rest.count c.loop-rest.invariant.same
    (λ e. let no : false ≡ true = c.loop-rest-test.ensures.1 e in cc)
