-- A group after the other; then the repeats at the end are carried.
use Rattle.std.proofs.Common.{◌≡◌, inl, inr, ◌+◌, ◌-◌, ◌<◌, ◌++◌, replicate, append_assoc, length, take, drop, length-drop, drop-drop, refl, sym, ap, ◌∙◌, arith}
use Rattle.std.proofs.lemmas.Bool.{cases_lt}
use lib.Count.{count_trailing_zeros}
use Rattle.qoi.specs.inner.block.Lanes.{fresh_marks}
use Rattle.qoi.specs.inner.Coder.{pixels_in}
use Rattle.qoi.proofs.encoding.coder.CoderLink.{then_passes}
use Rattle.qoi.proofs.encoding.coder.CoderSteps.{repeats_joined}
use Rattle.qoi.proofs.encoding.coder.MarkedPixels.{marks_group, none_group}
use Rattle.qoi.proofs.encode.sparse.write_marked_pixels.Goals as goal

pub write_short_group-rest-requires : goal.write_short_group-rest-requires
write_short_group-rest-requires g c =
    let i = c.loop-marks_left.invariant in
    let n = count_trailing_zeros 64 c.loop-marks_left.marks_left in
    let group = marks_group c.loop-marks_left.coder.last.px (pixels_in c.loop-marks_left.rest) c.loop-marks_left.pixels_left c.loop-marks_left.marks_left i.enough i.lanes_few i.marks_are (omega (arith, c.loop-marks_left-test.true)) in
    let few : c.loop-marks_left.coder.last.repeats + n < 62 = elim (cases_lt 0 n) [
      | inl some ↦ omega (arith, i.few (group.first some), group.inside, i.lanes_few)
      | inr none ↦ omega (arith, none, c.loop-marks_left.coder.last.few)
    ] in
    (omega arith, (omega arith, (omega arith, (few, (omega (arith, group.inside, i.enough), (group.repeats, (group.other, omega (arith, i.room, group.inside, c.requires.room))))))))

pub overflow_sub-pixels_left : goal.overflow_sub-pixels_left
overflow_sub-pixels_left g c =
    let i = c.loop-marks_left.invariant in
    omega (arith, (marks_group c.loop-marks_left.coder.last.px (pixels_in c.loop-marks_left.rest) c.loop-marks_left.pixels_left c.loop-marks_left.marks_left i.enough i.lanes_few i.marks_are (omega (arith, c.loop-marks_left-test.true))).inside)

pub loop-marks_left-preserved : goal.loop-marks_left-preserved
loop-marks_left-preserved g c =
    let i = c.loop-marks_left.invariant in
    let n = count_trailing_zeros 64 c.loop-marks_left.marks_left in
    let lanes = c.loop-marks_left.pixels_left in
    let rest = pixels_in c.loop-marks_left.rest in
    let group = marks_group c.loop-marks_left.coder.last.px rest lanes c.loop-marks_left.marks_left i.enough i.lanes_few i.marks_are (omega (arith, c.loop-marks_left-test.true)) in
    let step = c.write_short_group-rest.ensures in
    let raw = pixels_in c.args.pixels.rest in
    let further : (16 - lanes) + (n + 1) ≡ 16 - (lanes - (n + 1)) = omega (arith, group.inside, i.lanes_few) in
    record {
      lanes_few = omega (arith, i.lanes_few);
      enough = omega (arith, i.enough, ap length step.rest, length-drop (n + 1) rest, group.inside);
      rest_is = step.rest ∙ ap (drop (n + 1)) i.rest_is ∙ drop-drop (n + 1) (16 - lanes) raw ∙ ap (λ k. drop k raw) further;
      marks_are = group.later c.write_short_group-rest.new.self.last.px step.px
          ∙ ap (λ ps. fresh_marks c.write_short_group-rest.new.self.last.px (take (lanes - (n + 1)) ps)) (sym step.rest);
      few = λ _. omega (arith, step.begun.1);
      begun = inr step.begun;
      room = omega (arith, i.room, step.end, group.inside);
      written = then_passes i.written step.written;
    }

pub returns-clause-written : goal.returns-clause-written
returns-clause-written g c = record {
  style = c.loop-marks_left.invariant.written.style;
  on = λ all more b.
      let i = c.loop-marks_left.invariant in
      let lanes = c.loop-marks_left.pixels_left in
      let rest = pixels_in c.loop-marks_left.rest in
      let q = c.loop-marks_left.coder.last.px in
      let split : rest ++ more ≡ replicate lanes q ++ (drop lanes rest ++ more) =
      ap (λ ps. ps ++ more) (none_group q rest lanes i.enough (sym c.loop-marks_left-test.false ∙ i.marks_are)) ∙ append_assoc (replicate lanes q) (drop lanes rest) more in
      rw c.skip.ensures.rest (repeats_joined (i.written.on all more b) lanes (drop lanes rest ++ more) split refl refl refl refl);
}
