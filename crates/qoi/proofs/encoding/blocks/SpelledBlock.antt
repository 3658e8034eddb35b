-- A block's vectors, lane by lane.
use Rattle.std.proofs.Common.{◌≡◌, ℕ, suc, List, [], ◌∷◌, length, map, take, refl, sym, ap, ◌∙◌, arith}
use Rattle.std.specs.List.{AllByRecursion}
use Rattle.qoi.specs.Qoi.{RgbaPixel, IsPixel, Past, pixel, hash, seen, pixel_eq}
use Rattle.qoi.specs.inner.block.Lanes.{Lane, mask, lanes_of, IsLane}
use Rattle.qoi.specs.inner.block.Vectors.{AreBy, AreMasks, ArePlanesBy}
use Rattle.qoi.specs.inner.block.Planes.{Planes, AreSixteen, ArePlanes}
use Rattle.qoi.specs.inner.block.Positions.{stand_tests}
use Rattle.qoi.proofs.encoding.lanes.LaneTests.{befores, themselves}

-- there are as many lanes as pixels
pub lanes_long : (held : Past) (q : RgbaPixel) (ps : List RgbaPixel) → length (lanes_of held q ps) ≡ length ps
lanes_long held q [] = refl
lanes_long held q (p ∷ ps) = ap (λ n. suc n) (lanes_long (p ∷ held) p ps)

-- lanes of pixels
pub lanes_are : (held : Past) (q : RgbaPixel) (ps : List RgbaPixel) → IsPixel q → AllByRecursion IsPixel ps → AllByRecursion IsLane (lanes_of held q ps)
lanes_are held q [] iq a = tt
lanes_are held q (p ∷ ps) iq a = (record { px_is = a.0; before_is = iq }, lanes_are (p ∷ held) p ps a.0 a.1)

-- before them stands a pixel
pub last_is_pixel : (held : Past) (q : RgbaPixel) (ps : List RgbaPixel) → AreSixteen ps → AllByRecursion IsLane (lanes_of held q ps) → IsPixel q
last_is_pixel held q [] sixteen are = absurd (let l = sixteen.long in omega arith)
last_is_pixel held q (p ∷ ps) sixteen are = are.0.before_is

-- which pixels stand at their index positions, by lanes
pub stands_lanes : (held : Past) (q : RgbaPixel) (ps : List RgbaPixel) → map (λ (l : Lane). mask l.stands) (lanes_of held q ps) ≡ map mask (stand_tests held ps)
stands_lanes held q [] = refl
stands_lanes held q (p ∷ ps) = ap (λ z. mask (pixel_eq (seen held (hash p)) p) ∷ z) (stands_lanes (p ∷ held) p ps)

-- any pixel may stand before a block, as this one
pub before_is : IsPixel (pixel 0 0 0 0)
before_is = record { r = omega arith; g = omega arith; b = omega arith; a = omega arith }

module _ (held : Past) (q : RgbaPixel) (ps : List RgbaPixel) (sixteen : AreSixteen ps) (last : IsPixel q) where
  -- the lanes of the block
  abbrev ls : List Lane
  ls = lanes_of held q ps

  -- numbers for its lanes
  by : (f : Lane → ℕ) (xs : List ℕ) → xs ≡ map f ls → AreBy ls f xs
  by f xs e = record { long = lanes_long held q ps ∙ sixteen.long; are = lanes_are held q ps last sixteen.are; is = e }

  -- of the lanes' own pixels
  pub plane_by : (f : RgbaPixel → ℕ) (xs : List ℕ) → xs ≡ map f ps → AreBy ls (λ l. f l.px) xs
  plane_by f xs e = by (λ l. f l.px) xs (e ∙ sym (themselves f held q ps))

  -- the planes of the pixels
  pub own_planes : (p : Planes) → ArePlanes ps p → ArePlanesBy ls (λ l. l.px) p
  own_planes p planes = record {
    r_is = plane_by (λ (p : RgbaPixel). p.r) p.r planes.r_is;
    g_is = plane_by (λ (p : RgbaPixel). p.g) p.g planes.g_is;
    b_is = plane_by (λ (p : RgbaPixel). p.b) p.b planes.b_is;
    a_is = plane_by (λ (p : RgbaPixel). p.a) p.a planes.a_is;
  }

  -- of the pixels before them
  pub before_by : (f : RgbaPixel → ℕ) (xs : List ℕ) (first : ℕ) → xs ≡ map f ps → first ≡ f q → AreBy ls (λ l. f l.before) (first ∷ take 15 xs)
  before_by f xs first e h = by (λ l. f l.before) (first ∷ take 15 xs)
      ((λ i. h i ∷ take 15 (e i)) ∙ sym (befores f held q ps ∙ ap (λ n. take n (f q ∷ map f ps)) sixteen.long))

  -- which of them stand at their index positions
  pub stands_by : (xs : List ℕ) → xs ≡ map mask (stand_tests held ps) → AreMasks ls (λ l. l.stands) xs
  stands_by xs e = by (λ l. mask l.stands) xs (e ∙ sym (stands_lanes held q ps))
