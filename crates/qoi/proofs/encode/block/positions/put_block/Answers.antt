-- Four times four pixels, one after the other.
use Rattle.std.proofs.Common.{◌≡◌, ℕ, ◌+◌, Bool, List, [], ◌∷◌, ◌++◌, length, map, reverse, slice_index, refl, ap, arith}
use lib.Lanes.{zip2}
use Rattle.qoi.specs.Qoi.{RgbaPixel, Past, hash, pixel_eq}
use Rattle.qoi.specs.inner.block.Lanes.{mask}
use Rattle.qoi.specs.inner.block.Planes.{Words, AreSixteen, AreFourWords, AreBlockWords}
use Rattle.qoi.specs.inner.block.Positions.{seen_before, four_times, HasPut, HasPutBlock}
use Rattle.qoi.specs.inner.Table.{Holds}
use Rattle.qoi.proofs.encode.block.positions.put_block.Goals as goal

-- the index positions of four lanes
abbrev four_from : List ℕ → ℕ → List ℕ
four_from indices k = slice_index indices k ∷ slice_index indices (k + 1) ∷ slice_index indices (k + 2) ∷ slice_index indices (k + 3) ∷ []

-- what two calls say of four pixels: they were put, and which of them stood there
record FourPut (old new : List RgbaPixel) (indices words found masks : List ℕ) : Type 0 where
  pub put : (held : Past) (ps : List RgbaPixel) → Holds old held → AreFourWords ps words → indices ≡ map hash ps → HasPut held ps found new
  pub masks_are : (qs ps : List RgbaPixel) → AreFourWords qs found → AreFourWords ps words → masks ≡ four_times (zip2 pixel_eq qs ps)

-- the masks of sixteen lanes from those of four times four
abbrev Joins : List ℕ → List ℕ → List ℕ → List ℕ → List ℕ → Type 0
Joins a b c d all = (p q r s : List Bool) → length p ≡ 4 → length q ≡ 4 → length r ≡ 4 → length s ≡ 4
    → a ≡ four_times p → b ≡ four_times q → c ≡ four_times r → d ≡ four_times s → all ≡ map mask (p ++ (q ++ (r ++ s)))

-- all four times four
block_put : (held : Past) (ps : List RgbaPixel) (w : Words) (indices : List ℕ) (t0 t1 t2 t3 t4 : List RgbaPixel) (f0 f1 f2 f3 m0 m1 m2 m3 all : List ℕ)
    → Holds t0 held → AreSixteen ps → AreBlockWords ps w → indices ≡ map hash ps
    → FourPut t0 t1 (four_from indices 0) w.one f0 m0 → FourPut t1 t2 (four_from indices 4) w.two f1 m1
    → FourPut t2 t3 (four_from indices 8) w.three f2 m2 → FourPut t3 t4 (four_from indices 12) w.four f3 m3
    → Joins m0 m1 m2 m3 all → HasPutBlock held ps all t4
block_put held (p0 ∷ p1 ∷ p2 ∷ p3 ∷ p4 ∷ p5 ∷ p6 ∷ p7 ∷ p8 ∷ p9 ∷ p10 ∷ p11 ∷ p12 ∷ p13 ∷ p14 ∷ p15 ∷ []) w indices t0 t1 t2 t3 t4 f0 f1 f2 f3 m0 m1 m2 m3 all h s are at c0 c1 c2 c3 join =
    let q0 = p0 ∷ p1 ∷ p2 ∷ p3 ∷ [] in
    let q1 = p4 ∷ p5 ∷ p6 ∷ p7 ∷ [] in
    let q2 = p8 ∷ p9 ∷ p10 ∷ p11 ∷ [] in
    let q3 = p12 ∷ p13 ∷ p14 ∷ p15 ∷ [] in
    let k0 = c0.put held q0 h are.one_are (ap (λ xs. four_from xs 0) at) in
    let k1 = c1.put (reverse q0 ++ held) q1 k0.holds are.two_are (ap (λ xs. four_from xs 4) at) in
    let k2 = c2.put (reverse q1 ++ (reverse q0 ++ held)) q2 k1.holds are.three_are (ap (λ xs. four_from xs 8) at) in
    let k3 = c3.put (reverse q2 ++ (reverse q1 ++ (reverse q0 ++ held))) q3 k2.holds are.four_are (ap (λ xs. four_from xs 12) at) in
    record {
      stands_are = join (zip2 pixel_eq (seen_before held q0) q0) (zip2 pixel_eq (seen_before (reverse q0 ++ held) q1) q1)
          (zip2 pixel_eq (seen_before (reverse q1 ++ (reverse q0 ++ held)) q2) q2) (zip2 pixel_eq (seen_before (reverse q2 ++ (reverse q1 ++ (reverse q0 ++ held))) q3) q3) refl refl refl refl (c0.masks_are _ q0 k0.found_are are.one_are) (c1.masks_are _ q1 k1.found_are are.two_are)
          (c2.masks_are _ q2 k2.found_are are.three_are) (c3.masks_are _ q3 k3.found_are are.four_are);
      holds = k3.holds;
    }
block_put held ps w indices t0 t1 t2 t3 t4 f0 f1 f2 f3 m0 m1 m2 m3 all h s are at c0 c1 c2 c3 join = absurd (let l = s.long in omega arith)

pub returns : goal.returns
returns c = λ held ps h sixteen are at.
    block_put held ps c.args.w c.args.indices.now c.args.table.now c.swap_four-one.new.self c.swap_four-two.new.self c.swap_four-three.new.self c.swap_four-four.new.self
    c.swap_four-one.result c.swap_four-two.result c.swap_four-three.result c.swap_four-four.result
    c.equal.result c.equal-2.result c.equal-3.result c.equal-4.result c.one_of_four.result h sixteen are at
    (record { put = c.swap_four-one.ensures; masks_are = c.equal.ensures }) (record { put = c.swap_four-two.ensures; masks_are = c.equal-2.ensures })
    (record { put = c.swap_four-three.ensures; masks_are = c.equal-3.ensures }) (record { put = c.swap_four-four.ensures; masks_are = c.equal-4.ensures })
    c.one_of_four.ensures
