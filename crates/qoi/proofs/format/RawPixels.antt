-- The pixels of raw bytes: they are pixels, of as many channels, and give the bytes back.
use Rattle.std.proofs.Common.{◌≡◌, inl, inr, ℕ, zero, suc, ◌*◌, ◌<◌, List, [], ◌∷◌, ◌++◌, length, take, slice_set, refl, sym, ap, ◌∙◌, arith}
use Rattle.std.specs.List.{AllByRecursion}
use Rattle.qoi.specs.Qoi.{RgbaPixel, IsPixel, pixel}
use Rattle.qoi.specs.Raw.{IsChannels, output, pixels_of_3, pixels_of_4, pixels_of, AreOpaque, HasChannels}
use Rattle.qoi.proofs.format.WholePixels.{by_channels, length-output}

-- three bytes each: they are pixels
pixels_3 : (bytes : List ℕ) → AllByRecursion (λ b. b < 256) bytes → AllByRecursion IsPixel (pixels_of_3 bytes)
pixels_3 (r ∷ g ∷ b ∷ bytes) h = (record { r = h.0; g = h.1.0; b = h.1.1.0; a = omega arith }, pixels_3 bytes h.1.1.1)
pixels_3 _ h = tt

-- four bytes each: they are pixels
pixels_4 : (bytes : List ℕ) → AllByRecursion (λ b. b < 256) bytes → AllByRecursion IsPixel (pixels_of_4 bytes)
pixels_4 (r ∷ g ∷ b ∷ a ∷ bytes) h = (record { r = h.0; g = h.1.0; b = h.1.1.0; a = h.1.1.1.0 }, pixels_4 bytes h.1.1.1.1)
pixels_4 _ h = tt

-- they are pixels
pub pixels_of_are : (channels : ℕ) (bytes : List ℕ) → IsChannels channels → AllByRecursion (λ b. b < 256) bytes
    → AllByRecursion IsPixel (pixels_of channels bytes)
pixels_of_are channels bytes is h = by_channels (λ c. AllByRecursion IsPixel (pixels_of c bytes)) is (pixels_3 bytes h) (pixels_4 bytes h)

-- three bytes each: they are opaque
pub opaque_3 : (bytes : List ℕ) → AreOpaque (pixels_of_3 bytes)
opaque_3 (r ∷ g ∷ b ∷ bytes) = (refl, opaque_3 bytes)
opaque_3 _ = tt

-- they have as many channels as a pixel has bytes
pub pixels_of_have : (channels : ℕ) (bytes : List ℕ) → IsChannels channels → HasChannels (pixels_of channels bytes) channels
pixels_of_have channels bytes (inl e) = inr (e, rw e (opaque_3 bytes))
pixels_of_have channels bytes (inr e) = inl e

-- three bytes each: they give the bytes back
back_3 : (bytes : List ℕ) (n : ℕ) → length bytes ≡ 3 * n → output 3 3 (pixels_of_3 bytes) ≡ bytes
back_3 [] zero e = refl
back_3 (r ∷ g ∷ b ∷ bytes) (suc n) e = ap (λ (x : List ℕ). r ∷ g ∷ b ∷ x) (back_3 bytes n (omega arith))
back_3 _ _ e = absurd (omega arith)

-- four bytes each: they give the bytes back
back_4 : (bytes : List ℕ) (n : ℕ) → length bytes ≡ 4 * n → output 4 4 (pixels_of_4 bytes) ≡ bytes
back_4 [] zero e = refl
back_4 (r ∷ g ∷ b ∷ a ∷ bytes) (suc n) e = ap (λ (x : List ℕ). r ∷ g ∷ b ∷ a ∷ x) (back_4 bytes n (omega arith))
back_4 _ _ e = absurd (omega arith)

-- they give the bytes back
pub output-pixels_of : (channels n : ℕ) (bytes : List ℕ) → IsChannels channels → length bytes ≡ channels * n
    → output channels channels (pixels_of channels bytes) ≡ bytes
output-pixels_of channels n bytes is = by_channels (λ c. length bytes ≡ c * n → output c c (pixels_of c bytes) ≡ bytes) is (back_3 bytes n) (back_4 bytes n)

-- so there are as many pixels as the bytes have room for
pub length-pixels_of : (channels n : ℕ) (bytes : List ℕ) → IsChannels channels → length bytes ≡ channels * n → length (pixels_of channels bytes) ≡ n
length-pixels_of channels n bytes is e =
    let made = sym (length-output channels channels (pixels_of channels bytes) is) ∙ ap length (output-pixels_of channels n bytes is e) ∙ e in
    by_channels (λ c. c * length (pixels_of channels bytes) ≡ c * n → length (pixels_of channels bytes) ≡ n) is (λ k. omega (arith, k)) (λ k. omega (arith, k)) made

-- three bytes each: the pixels of joined bytes
append_3 : (xs ys : List ℕ) (n : ℕ) → length xs ≡ 3 * n → pixels_of_3 (xs ++ ys) ≡ pixels_of_3 xs ++ pixels_of_3 ys
append_3 [] ys zero e = refl
append_3 (r ∷ g ∷ b ∷ xs) ys (suc n) e = ap (λ (x : List RgbaPixel). pixel r g b 255 ∷ x) (append_3 xs ys n (omega arith))
append_3 _ ys _ e = absurd (omega arith)

-- four bytes each: the pixels of joined bytes
append_4 : (xs ys : List ℕ) (n : ℕ) → length xs ≡ 4 * n → pixels_of_4 (xs ++ ys) ≡ pixels_of_4 xs ++ pixels_of_4 ys
append_4 [] ys zero e = refl
append_4 (r ∷ g ∷ b ∷ a ∷ xs) ys (suc n) e = ap (λ (x : List RgbaPixel). pixel r g b a ∷ x) (append_4 xs ys n (omega arith))
append_4 _ ys _ e = absurd (omega arith)

-- the pixels of joined bytes
pub pixels_of-append : (channels n : ℕ) (xs ys : List ℕ) → IsChannels channels → length xs ≡ channels * n
    → pixels_of channels (xs ++ ys) ≡ pixels_of channels xs ++ pixels_of channels ys
pixels_of-append channels n xs ys is = by_channels (λ c. length xs ≡ c * n → pixels_of c (xs ++ ys) ≡ pixels_of c xs ++ pixels_of c ys) is
    (append_3 xs ys n) (append_4 xs ys n)

-- four bytes after a write to the last one: the first three and the new one
pub set_last : (n : ℕ) (xs : List ℕ) (v : ℕ) → length xs ≡ n → n ≡ 4 → slice_set xs 3 v ≡ take n (take 3 xs ++ v ∷ [])
set_last n (r ∷ g ∷ b ∷ a ∷ []) v h e = rw e refl
set_last n _ v h e = absurd (omega arith)
