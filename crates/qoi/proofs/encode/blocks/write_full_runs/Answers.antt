-- Full runs of the carried repeats and those that come are kept, and the repeats that are left are
-- carried.
use Rattle.std.proofs.Common.{◌≡◌, ℕ, zero, suc, Some, ◌+◌, ◌*◌, ◌<◌, ◌≤◌, ◌&&◌, nat_eq, nat_lt, List, ◌++◌, replicate, refl, sym, ap, ◌∙◌, arith, append_assoc, inl, inr, ◌-◌, ◌%◌, ◌/◌, take, drop, subst}
use Rattle.std.proofs.lemmas.Bool.{le-ltb, lt-ltb, ne_eqb}
use Rattle.std.specs.List.{slice_get}
use Rattle.qoi.specs.Styles.{Style}
use Rattle.qoi.specs.Qoi.{Run, RgbaPixel, chunk_bytes}
use Rattle.qoi.specs.inner.BlockLoop.{InBlocks, Carry}
use Rattle.qoi.specs.inner.block.Planes.{last_pixel}
use Rattle.qoi.proofs.format.ChunkSteps.{previous_repeats}
use Rattle.qoi.proofs.encoding.blocks.BlockWritten.{still_begun, repeats_held}
use Rattle.qoi.proofs.encoding.coder.CoderLink.{begun_by_repeat, goes_on}
use Rattle.qoi.proofs.encoding.coder.CoderSteps.{fulls_written}
use Rattle.qoi.proofs.encoding.styles.StyledGroup.{placed_repeats}
use Rattle.std.proofs.lemmas.Option.{same_Some}
use Rattle.qoi.specs.Runs.{IsCount}
use Rattle.qoi.specs.inner.Coder.{pixels_in, kept_bytes, LastPixel, REPEATS_AT_ONCE}
use Rattle.qoi.proofs.encoding.coder.PixelsIn.{NearGroup, near_group, near_some}
use Rattle.qoi.proofs.encode.blocks.write_full_runs.Given.{Over}
use Rattle.qoi.proofs.encode.blocks.write_full_runs.Goals.{After-repeats_of-at_front}
use Rattle.qoi.proofs.encode.blocks.write_full_runs.Goals as goal

-- whether there are no full runs
no_full : (k r : ℕ) → r < 62 → nat_eq (62 * k) 0 ≡ nat_lt (62 * k + r) 62
no_full zero r few = sym (lt-ltb (62 * 0 + r) 62 (omega (arith, few)))
no_full (suc k) r few = ne_eqb (62 * suc k) 0 (λ e. omega arith) ∙ sym (le-ltb (62 * suc k + r) 62 (omega arith))

-- n repeats more come, which make k full runs with those that are carried
blocks_on : {N : ℕ} {style : Style} {unsent : List ℕ} {size : ℕ} {rest more table : List RgbaPixel} {kept : List ℕ} (carry after : Carry N) (n k : ℕ)
    → carry.count + n ≡ 62 * k + after.count → after.count < 62 → after.before ≡ carry.before
    → after.named ≡ carry.named && nat_lt (carry.count + n) 62 → (slice_get rest 0 ≡ Some (last_pixel carry.before) → after.count ≤ 45)
    → slice_get (replicate n (last_pixel carry.before) ++ rest) 0 ≡ Some (last_pixel carry.before)
    → InBlocks style unsent size (replicate n (last_pixel carry.before) ++ rest) more table carry kept
    → InBlocks style unsent size rest more table after (kept ++ chunk_bytes (replicate k (Run 62)))
blocks_on {style = style} {unsent} {size} {rest} {more} {table} {kept} carry after n k sum small same placed few first b =
    let begun = begun_by_repeat b first in
    let px = b.is.px_is in
    let split = append_assoc (replicate n (last_pixel carry.before)) rest more ∙ ap (λ p. replicate n p ++ (rest ++ more)) px in
    let last : LastPixel = record { repeats = after.count; px = b.last.px; begun = b.last.begun; named = after.named; few = small } in
    record {
      last = last;
      is = record { px_is = ap last_pixel same ∙ px; count_is = refl; named_is = refl };
      between = fulls_written b.between n k (rest ++ more) {next = last} split (omega (arith, sum, b.is.count_is)) refl (λ past before state. (
          let came = sym state.begun_is ∙ begun in
          record {
            table_is = λ i l. state.table_is i l ∙ ap Some (sym (repeats_held style (62 * k) past came i));
            last_is = state.last_is ∙ sym (previous_repeats (62 * k) past);
            begun_is = begun ∙ sym (still_begun (62 * k) past came);
            named_is = λ is. placed ∙ ap (λ m. carry.named && nat_lt m 62) sum ∙ ap (λ z. carry.named && z) (sym (no_full k after.count small))
                ∙ placed_repeats (62 * k) past before carry.named (b.is.named_is ∙ state.named_is is);
          }));
      goes = goes_on begun (λ e. few (e ∙ ap Some (sym px)));
    }

-- the repeats stand at the front
near : (g : Over) (c : After-repeats_of-at_front g)
    → NearGroup (last_pixel c.args.carry.before) (REPEATS_AT_ONCE - c.from-carried.result) (pixels_in c.args.raw) c.repeats_of-at_front.result
near g c =
    let n = c.repeats_of-at_front.result in
    near_group (last_pixel c.args.carry.before) (REPEATS_AT_ONCE - c.from-carried.result) n (pixels_in c.args.raw)
    (subst (λ p. IsCount p (take (REPEATS_AT_ONCE - c.from-carried.result) (pixels_in c.args.raw)) n) (same_Some _ _ (sym (ap (λ ps. slice_get ps 0) c.first.ensures) ∙ c.requires)) (subst (λ ps. IsCount c.first.result.px ps n) c.at_most.ensures c.repeats_of-at_front.ensures.counted))

pub returns : goal.returns
returns g c = λ style least table.
    let group = near g (goal.at.returns g c).After-repeats_of-at_front in
    let carry = c.args.carry in
    let at_front = c.repeats_of-at_front.result in
    let count = c.from-carried.result + at_front in
    let later = drop at_front (pixels_in c.args.raw) in
    let first = subst (λ x. slice_get x 0 ≡ Some (last_pixel carry.before)) group.same c.requires in
    let few : slice_get later 0 ≡ Some (last_pixel carry.before) → count % 62 ≤ 45 = λ e. (elim group.ends as (λ _. count % 62 ≤ 45) [
      | inl other ↦ absurd (other e)
      | inr full ↦ omega (arith, full, c.from-carried.ensures, carry.few)
    ]) in
    record {
      less = omega (arith, c.skip.ensures.size, near_some _ _ _ _ group c.requires (omega (arith, c.from-carried.ensures, carry.few)));
      written = λ all n more whole b. rw (c.skip.ensures.rest, c.append_full_runs.ensures.kept)
          (blocks_on carry _ at_front (count / 62) (omega (arith, c.from-carried.ensures)) (omega arith) refl
          (ap (λ k. carry.named && nat_lt (k + at_front) 62) c.from-carried.ensures) few first
          (subst (λ x. InBlocks style all n x more table carry (kept_bytes c.args.piece.piece)) group.same b));
    }
