-- Sixteen pixels as four times four.
use Rattle.std.proofs.Common.{◌≡◌, List, [], ◌∷◌, ◌++◌, length, take, drop, refl, arith}
use Rattle.std.specs.List.{AllByRecursion}
use Rattle.qoi.specs.Qoi.{RgbaPixel, IsPixel}
use Rattle.qoi.specs.inner.block.Planes.{AreSixteen}

-- four pixels
pub record AreFourPixels (ps : List RgbaPixel) : Type 0 where
  pub four : length ps ≡ 4
  pub are : AllByRecursion IsPixel ps

-- four times four pixels, one after the other
pub record FourFours (ps : List RgbaPixel) : Type 0 where
  pub one : AreFourPixels (take 4 ps)
  pub two : AreFourPixels (take 4 (drop 4 ps))
  pub three : AreFourPixels (take 4 (drop 8 ps))
  pub four : AreFourPixels (take 4 (drop 12 ps))
  pub whole : take 4 ps ++ (take 4 (drop 4 ps) ++ (take 4 (drop 8 ps) ++ take 4 (drop 12 ps))) ≡ ps

-- sixteen pixels are
pub four_fours : (ps : List RgbaPixel) → AreSixteen ps → FourFours ps
four_fours (p0 ∷ p1 ∷ p2 ∷ p3 ∷ p4 ∷ p5 ∷ p6 ∷ p7 ∷ p8 ∷ p9 ∷ p10 ∷ p11 ∷ p12 ∷ p13 ∷ p14 ∷ p15 ∷ []) s =
    let a = s.are in
    let b = a.1.1.1.1 in
    let c = b.1.1.1.1 in
    record {
      one = record { four = refl; are = (a.0, (a.1.0, (a.1.1.0, (a.1.1.1.0, tt)))) };
      two = record { four = refl; are = (b.0, (b.1.0, (b.1.1.0, (b.1.1.1.0, tt)))) };
      three = record { four = refl; are = (c.0, (c.1.0, (c.1.1.0, (c.1.1.1.0, tt)))) };
      four = record { four = refl; are = c.1.1.1.1 };
      whole = refl;
    }
four_fours ps s = absurd (let l = s.long in omega arith)
