-- A block, or a group. Before its groups a fresh pixel came, since the call wrote one.
use Rattle.std.proofs.Common.{◌≡◌, ◌≤◌, ◌%◌, inl, inr, Option, None, Some, ◌++◌, take, drop, sym, ap, ◌∙◌, arith, take-append-drop}
use Rattle.std.specs.List.{slice_get}
use Rattle.qoi.specs.Qoi.{RgbaPixel}
use Rattle.qoi.specs.inner.block.Vectors.{FitsBlock}
use Rattle.qoi.specs.inner.BlockLoop.{IsCarried, FRONT_CARRIED}
use Rattle.qoi.specs.Styles.{style_in}
use Rattle.qoi.specs.inner.Coder.{LastPixel, pixels_in}
use Rattle.qoi.specs.inner.block.Planes.{block_pixels, last_pixel}
use Rattle.qoi.specs.inner.block.Lanes.{fresh_marks}
use Rattle.qoi.proofs.encoding.coder.CoderLink.{in_style, still_between, goes_on}
use Rattle.qoi.proofs.encoding.coder.MarkedPixels.{none_group, repeat_even}
use Rattle.qoi.proofs.encode.blocks.write_front_block.Goals as goal

-- no bit is set, so all repeat
pub write_full_runs-requires : goal.write_full_runs-requires
write_full_runs-requires g c =
    let q = last_pixel c.args.carry.before in
    let block = c.first-block in
    let none : 0 ≡ fresh_marks q (block_pixels block.result.words) = sym c.if-marks-eq0.true ∙ c.marks-marks.ensures c.args.carry.before block.ensures.changes in
    let repeats = none_group q (pixels_in c.args.pixels.rest) 16 c.args.pixels.enough (none ∙ ap (fresh_marks q) block.ensures.pixels) in
    (omega arith, (omega arith, (omega arith, (omega arith, ap (λ ps. slice_get ps 0) repeats))))

pub returns-then-marks-eq0 : goal.returns-then-marks-eq0
returns-then-marks-eq0 g c = c.write_full_runs.ensures (style_in g.row.STYLE c.args.pixels.style) _ c.args.table.now

pub write_marked_pixels-rest-requires : goal.write_marked_pixels-rest-requires
write_marked_pixels-rest-requires g c =
    let raw = pixels_in c.args.pixels.rest in
    let last = c.new-coder.result.last in
    let bits = c.marks-marks.result in
    let is : IsCarried last c.args.carry = rw c.new-coder.ensures.last c.last_pixel.ensures.carried in
    let marks : bits ≡ fresh_marks last.px (take 16 raw) =
    c.marks-marks.ensures c.args.carry.before c.first-block.ensures.changes ∙ (λ i. fresh_marks (is.px_is i) (c.first-block.ensures.pixels i)) in
    let few : slice_get raw 0 ≡ Some last.px → last.repeats ≤ FRONT_CARRIED = λ e.
    (let even : bits % 2 ≡ 0 = ap (λ z. z % 2) marks ∙ repeat_even last.px 16 raw (omega arith) e in
    omega (arith, is.count_is, c.goes_by_marks.ensures.few c.if-goes_by_marks.true even)) in
    (omega arith, (omega arith, (omega arith, (omega arith, (few, (c.args.piece.not_full, (omega (arith, c.if-marks-eq0.false), marks)))))))

pub returns-then-goes_by_marks : goal.returns-then-goes_by_marks
returns-then-goes_by_marks g c =
    let coder = c.new-coder.ensures in
    let last = c.last_pixel.ensures in
    let next = c.write_marked_pixels-rest.ensures in
    record {
      less = next.less;
      written = λ unsent n more whole b. record {
        last = c.write_marked_pixels-rest.new.coder.last;
        is = c.of.ensures;
        between = in_style next.written (coder.style ∙ c.style_in-style.ensures) coder.last more
            (still_between last.carried last.begun (inr (omega (arith, c.goes_by_marks.ensures.later c.if-goes_by_marks.true, whole))) b);
        goes = goes_on {rest = pixels_in c.write_marked_pixels-rest.result} next.begun (λ _. next.few);
      };
    }

pub returns-then-may_have_absent_blank : goal.returns-then-may_have_absent_blank
returns-then-may_have_absent_blank g c =
    let coder = c.new-coder-then-may_have_absent_blank.ensures in
    let before = c.last_pixel-then-may_have_absent_blank.ensures in
    let next = c.write_next_group-rest.ensures in
    let last = c.write_next_group-rest.new.self.last in
    let tight = sym c.style_in-style.ensures ∙ c.may_have_absent_blank.ensures.tight c.if-may_have_absent_blank.true in
    record {
      less = next.less;
      written = λ unsent n more whole b. record {
        last = last;
        is = c.of-then-may_have_absent_blank.ensures;
        between = in_style next.written (coder.style ∙ c.style_in-style.ensures) coder.last more (still_between before.carried before.begun (inl tight) b);
        goes = goes_on {rest = pixels_in c.write_next_group-rest.result} (next.begun (ap (λ (l : LastPixel). l.begun) coder.last ∙ before.begun))
            (λ e. omega (arith, next.none (λ none. (let no : ◌≡◌ {A = Option RgbaPixel} None (Some last.px) = sym (ap (λ ps. slice_get ps 0) none) ∙ e in cc))));
      };
    }

pub returns : goal.returns
returns g c =
    let block = c.first-block.ensures in
    let before = c.args.carry.before in
    let ps = block_pixels c.first-block.result.words in
    let after = drop 16 (pixels_in c.args.pixels.rest) in
    let style = style_in g.row.STYLE c.first-block.result.told_style in
    let same : style ≡ style_in g.row.STYLE c.args.pixels.style = ap (style_in g.row.STYLE) block.style in
    let fits : FitsBlock style c.args.table.now before ps c.first-block.result.changes = record {
      changes = block.changes;
      mixed = λ none. c.if-marks-eq0.false (c.marks-marks.ensures before block.changes ∙ none);
      no_blank = λ tight. c.may_have_absent_blank.ensures.none before block.changes c.if-may_have_absent_blank.false (c.style_in-style.ensures ∙ sym same ∙ tight);
    } in
    let front = sym (take-append-drop 16 (pixels_in c.args.pixels.rest)) ∙ ap (λ ps. ps ++ after) (sym block.pixels) in
    record {
      less = omega (arith, c.skip.ensures.size);
      written = λ unsent n more whole b.
          rw (c.skip.ensures.rest, ← same) (c.write_in_lanes-piece.ensures unsent n after more fits (rw (same, ← front) b));
    }
