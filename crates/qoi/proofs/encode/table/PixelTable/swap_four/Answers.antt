-- Four pixels, one after the other.
use Rattle.std.proofs.Common.{◌≡◌, ◌+◌, ℕ, slice_index, [], ◌∷◌, rules, subst, List, map, refl, ap, arith}
use Rattle.qoi.specs.Qoi.{RgbaPixel, IsPixel, Past, hash}
use Rattle.qoi.specs.inner.Packed.{word}
use Rattle.qoi.specs.inner.block.Planes.{AreFourWords}
use Rattle.qoi.specs.inner.block.Positions.{HasPut, HasPutOne}
use Rattle.qoi.specs.inner.Table.{Holds}
use Rattle.qoi.proofs.encode.table.PixelTable.swap_four.Goals as goal

-- what one call says
abbrev Swapped : (old new : List RgbaPixel) (index px was : ℕ) → Type 0
Swapped old new index px was = (past : Past) (p : RgbaPixel) → Holds old past → IsPixel p → px ≡ word p → index ≡ hash p → HasPutOne past p was new

-- four pixels, one after the other
four_swapped : (held : Past) (ps : List RgbaPixel) (w indices : List ℕ) (t0 t1 t2 t3 t4 : List RgbaPixel) (a b c d : ℕ) → AreFourWords ps w → indices ≡ map hash ps
    → Holds t0 held → Swapped t0 t1 (slice_index indices 0) (slice_index w 0) a → Swapped t1 t2 (slice_index indices 1) (slice_index w 1) b
    → Swapped t2 t3 (slice_index indices 2) (slice_index w 2) c → Swapped t3 t4 (slice_index indices 3) (slice_index w 3) d
    → HasPut held ps (a ∷ b ∷ c ∷ d ∷ []) t4
four_swapped held (p ∷ q ∷ r ∷ s ∷ []) w indices t0 t1 t2 t3 t4 a b c d are e h0 sa sb sc sd =
    let i = are.are in
    let wk = λ (k : ℕ). ap (λ xs. slice_index xs k) are.words_are in
    let ak = λ (k : ℕ). ap (λ xs. slice_index xs k) e in
    let one = sa held p h0 i.0 (wk 0) (ak 0) in
    let two = sb (p ∷ held) q one.holds i.1.0 (wk 1) (ak 1) in
    let three = sc (q ∷ p ∷ held) r two.holds i.1.1.0 (wk 2) (ak 2) in
    let four = sd (r ∷ q ∷ p ∷ held) s three.holds i.1.1.1.0 (wk 3) (ak 3) in
    record {
      found_are = record {
        four = refl;
        are = (one.is, (two.is, (three.is, (four.is, tt))));
        words_are = λ j. one.found_is j ∷ two.found_is j ∷ three.found_is j ∷ four.found_is j ∷ [];
      };
      holds = four.holds;
    }
four_swapped held ps w indices t0 t1 t2 t3 t4 a b c d are e h0 sa sb sc sd = absurd (let f = are.four in omega arith)

pub returns : goal.returns
returns c = λ held ps h are at.
    let index = λ (i : ℕ). slice_index c.args.indices.now (c.args.k + i) in
    let px = λ (i : ℕ). slice_index c.args.pixels i in
    let a : c.from.result ≡ slice_index c.args.indices.now c.args.k = search rules in
    let b : c.from-2.result ≡ index 1 = search rules in
    let d : c.from-3.result ≡ index 2 = search rules in
    let e : c.from-4.result ≡ index 3 = search rules in
    four_swapped held ps c.args.pixels (slice_index c.args.indices.now c.args.k ∷ index 1 ∷ index 2 ∷ index 3 ∷ []) c.args.self.now c.swap-a.new.self c.swap-b.new.self c.swap-c.new.self c.swap-d.new.self
    c.swap-a.result c.swap-b.result c.swap-c.result c.swap-d.result are at h
    (subst (λ z. Swapped c.args.self.now c.swap-a.new.self z (px 0) c.swap-a.result) a c.swap-a.ensures)
    (subst (λ z. Swapped c.swap-a.new.self c.swap-b.new.self z (px 1) c.swap-b.result) b c.swap-b.ensures)
    (subst (λ z. Swapped c.swap-b.new.self c.swap-c.new.self z (px 2) c.swap-c.result) d c.swap-c.ensures)
    (subst (λ z. Swapped c.swap-c.new.self c.swap-d.new.self z (px 3) c.swap-d.result) e c.swap-d.ensures)
