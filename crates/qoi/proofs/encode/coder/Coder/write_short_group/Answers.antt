-- One run, and the fresh pixel.
use Rattle.std.proofs.Common.{◌≡◌, ◌≢◌, inl, inr, ◌+◌, [], ◌∷◌, ◌++◌, drop, replicate, Option, None, Some, refl, sym, ap, ◌∙◌, subst, arith, append_assoc, drop-drop, take-append-drop}
use Rattle.std.proofs.lemmas.Option.{same_Some}
use Rattle.std.specs.List.{slice_get}
use Rattle.qoi.specs.Qoi.{RgbaPixel, hash}
use Rattle.qoi.specs.inner.Coder.{pixels_in, kept_bytes, single_chunk, CoderBetween}
use Rattle.qoi.proofs.encoding.coder.CoderLink.{of_coder}
use Rattle.qoi.proofs.encoding.coder.CoderSteps.{group_written}
use Rattle.qoi.proofs.encoding.coder.MarkedPixels.{get_drop}
use Rattle.qoi.proofs.encode.coder.Coder.write_short_group.Goals as goal

pub returns-clause-px : goal.returns-clause-px
returns-clause-px g c =
    sym (get_drop c.args.at_front (pixels_in c.args.raw)) ∙ ap (λ ps. slice_get ps 0) (sym c.skip-after.ensures.rest ∙ c.first.ensures) ∙ ap Some (sym c.write_fresh_pixel.ensures.px)

pub returns-clause-rest : goal.returns-clause-rest
returns-clause-rest g c = c.skip.ensures.rest ∙ ap (drop 1) c.skip-after.ensures.rest ∙ drop-drop 1 c.args.at_front (pixels_in c.args.raw) ∙ ap (λ k. drop k (pixels_in c.args.raw)) (omega arith)

pub returns-clause-written : goal.returns-clause-written
returns-clause-written g c = record {
  style = c.write_fresh_pixel.ensures.style ∙ c.update_after_repeats.ensures.style;
  on = λ all more b.
      let n = c.args.at_front in
      let raw = pixels_in c.args.raw in
      let last = c.args.self.now.last in
      let count = last.repeats + n in
      let after = pixels_in c.skip-after.result in
      let px = c.first.result.px in
      let first_is : after ≡ px ∷ drop 1 after = c.first.ensures in
      let rest = drop n raw in
      let later = rest ++ more in
      let first : slice_get later 0 ≡ Some px = ap (λ ps. slice_get (ps ++ more) 0) (sym c.skip-after.ensures.rest ∙ first_is) in
      let is : slice_get raw n ≡ Some px = sym (get_drop n raw) ∙ ap (λ ps. slice_get ps 0) (sym c.skip-after.ensures.rest ∙ first_is) in
      let differs : px ≢ last.px = λ e. c.requires.fresh (is ∙ ap Some e) in
      let split : raw ++ more ≡ replicate n last.px ++ later =
      ap (λ ps. ps ++ more) (sym (take-append-drop n raw) ∙ ap (λ ps. ps ++ rest) c.requires.repeat) ∙ append_assoc (replicate n last.px) rest more in
      let one = single_chunk c.args.self.now.style last.begun last.named (hash last.px) count in
      let some : later ≢ [] = λ none. (let no : ◌≡◌ {A = Option RgbaPixel} None (Some px) = ap (λ ps. slice_get ps 0) (sym none) ∙ first in cc) in
      let group = group_written b n later one split (inl (λ e. differs (same_Some _ _ (sym first ∙ e)))) (λ _. inr (some, refl))
      (c.append_run.ensures.kept _ c.single_repeat_byte.ensures) c.update_after_repeats.ensures.left c.update_after_repeats.ensures.state in
      let same = c.update_after_repeats.ensures.same.0 in
      let stand = subst (λ ps. CoderBetween c.update_after_repeats.new.self.style all (ps ++ more) c.update_after_repeats.new.table c.update_after_repeats.new.self.last (kept_bytes c.append_run.new.self)) (sym c.skip-after.ensures.rest ∙ first_is)
      (of_coder c.update_after_repeats.ensures.style refl group) in
      rw c.skip.ensures.rest (c.write_fresh_pixel.ensures.written all (drop 1 after ++ more) (λ e. differs (e ∙ same)) c.update_after_repeats.ensures.left stand);
}
