-- Sixteen pixels, packed or as planes of their channels.
use Rattle.std.specs.Prelude.{◌≡◌, ℕ, List, [], ◌∷◌, map, ◌++◌, ◌<◌, ◌^◌, length, take, drop, slice_index}
use Rattle.std.specs.List.{AllByRecursion}
use lib.Lanes.{number_l}
pub use Rattle.qoi.specs.declared.encode.block.planes.Planes.{Planes}
pub use Rattle.qoi.specs.declared.encode.block.planes.Words.{Words}
use Rattle.qoi.specs.Qoi.{RgbaPixel, IsPixel, pixel}
use Rattle.qoi.specs.inner.Packed.{word, pixel_of_word}

-- sixteen pixels
pub record AreSixteen (ps : List RgbaPixel) : Type 0 where
  pub long : length ps ≡ 16
  pub are : AllByRecursion IsPixel ps

-- four pixels, packed
pub record AreFourWords (ps : List RgbaPixel) (words : List ℕ) : Type 0 where
  pub four : length ps ≡ 4
  pub are : AllByRecursion IsPixel ps
  pub words_are : words ≡ map word ps

-- sixteen pixels, packed
pub record AreBlockWords (ps : List RgbaPixel) (w : Words) : Type 0 where
  pub one_are : AreFourWords (take 4 ps) w.one
  pub two_are : AreFourWords (take 4 (drop 4 ps)) w.two
  pub three_are : AreFourWords (take 4 (drop 8 ps)) w.three
  pub four_are : AreFourWords (take 4 (drop 12 ps)) w.four

-- the pixels of sixteen packed ones
abbrev pub block_pixels : Words → List RgbaPixel
block_pixels w = map pixel_of_word w.one ++ (map pixel_of_word w.two ++ (map pixel_of_word w.three ++ map pixel_of_word w.four))

-- four numbers of 32 bits
abbrev pub AreFour : List ℕ → Type 0
AreFour words = (length words ≡ 4) × ((k : ℕ) → slice_index words k < 2 ^ 32)

-- sixteen
abbrev pub ArePacked : Words → Type 0
ArePacked w = AreFour w.one × (AreFour w.two × (AreFour w.three × AreFour w.four))

-- the channels of four pixels, each as a number
abbrev pub channel_words : List RgbaPixel → List ℕ
channel_words ps =
    number_l 256 (map (λ (p : RgbaPixel). p.r) ps) ∷ number_l 256 (map (λ (p : RgbaPixel). p.g) ps)
    ∷ number_l 256 (map (λ (p : RgbaPixel). p.b) ps) ∷ number_l 256 (map (λ (p : RgbaPixel). p.a) ps) ∷ []

-- the planes are the channels of these pixels
pub record ArePlanes (ps : List RgbaPixel) (p : Planes) : Type 0 where
  pub r_is : p.r ≡ map (λ (q : RgbaPixel). q.r) ps
  pub g_is : p.g ≡ map (λ (q : RgbaPixel). q.g) ps
  pub b_is : p.b ≡ map (λ (q : RgbaPixel). q.b) ps
  pub a_is : p.a ≡ map (λ (q : RgbaPixel). q.a) ps

-- the last of sixteen pixels
abbrev pub last_pixel : Planes → RgbaPixel
last_pixel p = pixel (slice_index p.r 15) (slice_index p.g 15) (slice_index p.b 15) (slice_index p.a 15)
