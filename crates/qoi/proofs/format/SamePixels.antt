-- The test of two pixels says whether they are the same, and each has an index position.
use Rattle.std.proofs.Common.{◌≡◌, ◌≢◌, ◌⊎◌, inl, inr, true, false, ◌<◌, arith, sym, ◌∙◌}
use Rattle.std.proofs.lemmas.Bool.{cases_Bool, true≢false, false_from_ne_true}
use Rattle.qoi.specs.Qoi.{RgbaPixel, pixel, pixel_eq, hash}

-- an index position is below 64
pub hash_below : (p : RgbaPixel) → hash p < 64
unfolding hash
hash_below p = omega arith

-- equal numbers make equal pixels
pub same_pixel : (p q : RgbaPixel) → p.r ≡ q.r → p.g ≡ q.g → p.b ≡ q.b → p.a ≡ q.a → p ≡ q
same_pixel p q r g b a = let e : pixel p.r p.g p.b p.a ≡ pixel q.r q.g q.b q.a = cc in e

-- the test passes for the same pixel
pub pixel_eq-same : (p : RgbaPixel) → pixel_eq p p ≡ true
unfolding pixel_eq
pixel_eq-same p = grind arith

-- the test passes for equal pixels
pub pixel_eq-from : (p q : RgbaPixel) → p ≡ q → pixel_eq p q ≡ true
pixel_eq-from p q e = rw e (pixel_eq-same q)

-- only equal pixels pass the test
pub pixel_eq-true : (p q : RgbaPixel) → pixel_eq p q ≡ true → p ≡ q
unfolding pixel_eq
pixel_eq-true p q h =
    same_pixel p q (grind arith) (grind arith) (grind arith) (grind arith)

-- different pixels don't pass the test
pub pixel_eq-ne : (p q : RgbaPixel) → p ≢ q → pixel_eq p q ≡ false
pixel_eq-ne p q n = false_from_ne_true _ (λ h. n (pixel_eq-true p q h))

-- two pixels are the same or not
pub cases_pixel : (p q : RgbaPixel) → (p ≡ q) ⊎ (p ≢ q)
cases_pixel p q = elim (cases_Bool (pixel_eq p q)) [
  | inl h ↦ inl (pixel_eq-true p q h)
  | inr h ↦ inr (λ e. true≢false (sym (pixel_eq-from p q e) ∙ h))
]
