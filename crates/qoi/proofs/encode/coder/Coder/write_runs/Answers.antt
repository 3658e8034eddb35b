-- The repeats that are looked at, and their runs.
use Rattle.std.proofs.Common.{◌≡◌, ◌≢◌, ◌⊎◌, inl, inr, ◌+◌, ◌-◌, ◌/◌, ◌%◌, ◌<◌, List, [], ◌++◌, drop, replicate, append_assoc, Some, refl, sym, ap, ◌∙◌, arith, subst}
use Rattle.std.proofs.lemmas.Bool.{true≢false}
use Rattle.std.specs.List.{slice_get}
use Rattle.qoi.specs.Qoi.{RgbaPixel, hash}
use Rattle.qoi.specs.Runs.{IsCount}
use Rattle.qoi.specs.inner.Coder.{pixels_in, kept_bytes, single_chunk, REPEATS_AT_ONCE}
use Rattle.qoi.proofs.encoding.coder.CoderLink.{first_more, more_some, of_coder}
use Rattle.qoi.proofs.encoding.coder.CoderSteps.{group_written, fulls_written}
use Rattle.qoi.proofs.encoding.coder.PixelsIn.{NearGroup, near_group, near_some}
use Rattle.qoi.proofs.encoding.lists.RunBytes.{runs_written}
use Rattle.qoi.proofs.encode.coder.Coder.write_runs.Given.{Over}
use Rattle.qoi.proofs.encode.coder.Coder.write_runs.Goals.{After-repeats_of-at_front, else-carried-eq0-via-then-carried-eq0+else-not-begin_with, else-carried-eq0-via-else-carried-eq0}
use Rattle.qoi.proofs.encode.coder.Coder.write_runs.Goals as goal

-- the repeats stand at the front
near : (g : Over) (c : After-repeats_of-at_front g) → NearGroup c.args.self.now.last.px (REPEATS_AT_ONCE - c.args.self.now.last.repeats) (pixels_in c.args.raw) c.repeats_of-at_front.result
near g c =
    let n = c.repeats_of-at_front.result in
    near_group c.args.self.now.last.px (REPEATS_AT_ONCE - c.args.self.now.last.repeats) n (pixels_in c.args.raw)
    (subst (λ ps. IsCount c.args.self.now.last.px ps n) c.at_most.ensures c.repeats_of-at_front.ensures.counted)

-- if none is carried, there is one at the front
some_come : (g : Over) (c : After-repeats_of-at_front g) → 0 < c.args.self.now.last.repeats + c.repeats_of-at_front.result
some_come g c = elim c.else-carried-eq0.branch [
  | else-carried-eq0-via-then-carried-eq0+else-not-begin_with w ↦ (let first = w.begin_with.ensures.0 w.if-not-begin_with.false in
      omega (arith, near_some c.args.self.now.last.px _ _ (pixels_in c.args.raw) (near g c) first (omega (arith, c.args.self.now.last.few))))
  | else-carried-eq0-via-else-carried-eq0 w ↦ omega (arith, w.if-carried-eq0.false)
]

pub returns-clause-each : goal.returns-clause-each
returns-clause-each g c = omega (arith, c.append_full_runs.ensures.end, c.append_run.ensures.end, some_come g (goal.at.returns-clause-each g c).After-repeats_of-at_front)

-- if the next pixel repeats, too, as many were counted as may be
pub returns-clause-some : goal.returns-clause-some
returns-clause-some g c = λ repeats.
    (let group = near g (goal.at.returns-clause-some g c).After-repeats_of-at_front in
    elim group.ends [ inl other ↦ absurd (other repeats) | inr full ↦ omega (arith, full, c.args.self.now.last.few) ])

-- and so the pixels that follow
front_is : (g : Over) (c : After-repeats_of-at_front g) (more : List RgbaPixel)
    → pixels_in c.args.raw ++ more ≡ replicate c.repeats_of-at_front.result c.args.self.now.last.px ++ (drop c.repeats_of-at_front.result (pixels_in c.args.raw) ++ more)
front_is g c more = ap (λ ps. ps ++ more) (near g c).same ∙ append_assoc (replicate c.repeats_of-at_front.result c.args.self.now.last.px) (drop c.repeats_of-at_front.result (pixels_in c.args.raw)) more

pub returns-then-is_empty-clause-written : goal.returns-then-is_empty-clause-written
returns-then-is_empty-clause-written g c = record {
  style = c.update_after_repeats.ensures.style;
  on = λ all more b.
      let n = c.repeats_of-at_front.result in
      let count = c.args.self.now.last.repeats + n in
      of_coder c.update_after_repeats.ensures.style refl (fulls_written b n (count / 62) (drop n (pixels_in c.args.raw) ++ more) (front_is g (goal.at.returns-then-is_empty-clause-written g c).After-repeats_of-at_front more)
      (omega (arith, c.update_after_repeats.ensures.left)) c.append_full_runs.ensures.kept c.update_after_repeats.ensures.state);
}

pub returns-clause-written : goal.returns-clause-written
returns-clause-written g c = record {
  style = c.update_after_repeats-2.ensures.style;
  on = λ all more b.
      let n = c.repeats_of-at_front.result in
      let last = c.args.self.now.last in
      let count = last.repeats + n in
      let here = (goal.at.returns-clause-written g c).After-repeats_of-at_front in
      let group = near g here in
      let rest = drop n (pixels_in c.args.raw) in
      let later = rest ++ more in
      let some : rest ≢ [] = λ none. true≢false (sym (c.is_empty.ensures.1 (c.skip.ensures.rest ∙ none)) ∙ c.if-is_empty.false) in
      let first : slice_get later 0 ≡ slice_get rest 0 = first_more rest more some in
      let full : n ≡ REPEATS_AT_ONCE - last.repeats → count % 62 ≡ 0 = λ e. omega (arith, e, last.few) in
      let ends : (slice_get later 0 ≢ Some last.px) ⊎ (count % 62 ≡ 0) =
      elim group.ends as (λ _. (slice_get later 0 ≢ Some last.px) ⊎ (count % 62 ≡ 0)) [ inl other ↦ inl (λ e. other (sym first ∙ e)) | inr e ↦ inr (full e) ] in
      let one = single_chunk c.args.self.now.style last.begun last.named (hash last.px) count in
      of_coder c.update_after_repeats-2.ensures.style refl (group_written b n later one (front_is g here more) ends (λ _. inr (more_some rest more some, refl))
      (runs_written one count (kept_bytes c.args.piece.now) _ _ c.append_full_runs.ensures.kept (c.append_run.ensures.kept one c.single_repeat_byte.ensures)) c.update_after_repeats-2.ensures.left c.update_after_repeats-2.ensures.state);
}
