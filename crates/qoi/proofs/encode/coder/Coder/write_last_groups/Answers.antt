-- Repeats and a fresh pixel further, until no pixel is left; then the last run.
use Rattle.std.proofs.Common.{◌≡◌, ◌≢◌, ◌≤◌, ◌+◌, ◌*◌, inl, inr, [], length, refl, sym, ◌∙◌, arith, append-nil}
use Rattle.std.proofs.lemmas.Bool.{true≢false, cases_lt}
use Rattle.qoi.specs.Qoi.{Run, chunk_max}
use Rattle.qoi.specs.inner.Coder.{pixels_in, RUNS_AT_ONCE}
use Rattle.qoi.proofs.encoding.coder.CoderLink.{then_passes}
use Rattle.qoi.proofs.encoding.coder.CoderSteps.{last_run}
use Rattle.qoi.proofs.encode.coder.Coder.write_last_groups.Goals as goal

pub loop-rest-preserved : goal.loop-rest-preserved
loop-rest-preserved g c =
    let i = c.loop-rest.invariant in
    let next = c.write_next_group-rest in
    let step = next.ensures in
    let some : pixels_in c.loop-rest.rest ≢ [] = λ none. true≢false (sym (c.is_empty.ensures.1 none) ∙ c.loop-rest-test.true) in
    let near : next.new.piece.end + chunk_max * length (pixels_in next.result)
    ≤ c.args.piece.now.end + (RUNS_AT_ONCE + 1) + chunk_max * length (pixels_in c.args.raw) = elim (cases_lt 0 c.loop-rest.self.last.repeats) [
      | inl carried ↦ omega (arith, step.end, step.less, i.first carried some)
      | inr none ↦ omega (arith, step.each (omega (arith, none)), i.end)
    ] in
    record {
      end = near;
      first = λ left some. absurd (omega (arith, left, step.none some));
      written = then_passes i.written step.written;
    }

pub returns : goal.returns
returns g c = record {
  all = λ unsent b.
      let now = c.loop-rest in
      let none : pixels_in now.rest ≡ [] = c.is_empty.ensures.0 c.loop-rest-test.false in
      let end = rw none at (now.invariant.written.on unsent [] (rw (append-nil (pixels_in c.args.raw)) b)) in
      last_run end.to_write ∙ sym (c.append_run.ensures.kept (Run 1) refl);
}
