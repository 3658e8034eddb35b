-- What holds of three channels and of four, and the bytes of whole pixels.
use Rattle.std.proofs.Common.{◌≡◌, ℕ, zero, suc, ◌+◌, ◌*◌, ◌/◌, ◌%◌, ◌≤◌, inl, inr, List, [], ◌∷◌, ◌++◌, length, reverse, take, arith, refl, sym, ap, ◌∙◌, subst, length-append, mul-suc}
use Rattle.std.proofs.Math.Seq.{take-length, take-append-add}
use Rattle.std.proofs.lemmas.List.{length-reverse}
use Rattle.qoi.specs.Qoi.{RgbaPixel}
use Rattle.qoi.specs.Raw.{IsChannels, pixel_bytes, output}

-- what holds of three channels and of four
pub by_channels : {n : ℕ} (P : ℕ → Type 0) → IsChannels n → P 3 → P 4 → P n
by_channels P (inl e) three four = subst P (sym e) three
by_channels P (inr e) three four = subst P (sym e) four

-- the bytes of whole pixels: c for each
pub whole_pixels : (c len : ℕ) → IsChannels c → len % c ≡ 0 → len ≡ c * (len / c)
whole_pixels c len is whole = grind (arith, is)

-- a pixel has as many bytes as channels
length-pixel_bytes : (f c : ℕ) (p : RgbaPixel) → IsChannels c → length (pixel_bytes f c p) ≡ c
length-pixel_bytes f c p (inl e) = rw e refl
length-pixel_bytes f c p (inr e) = rw e refl

-- c bytes a pixel
pub length-output : (f c : ℕ) (ps : List RgbaPixel) → IsChannels c → length (output f c ps) ≡ c * length ps
length-output f c [] is = omega arith
length-output f c (p ∷ ps) is =
    grind (arith, mul-suc c (length ps), length-append (pixel_bytes f c p) (output f c ps), length-pixel_bytes f c p is, length-output f c ps is)

-- in reverse, too
pub length-output_reverse : (f c : ℕ) (ps : List RgbaPixel) → IsChannels c → length (output f c (reverse ps)) ≡ c * length ps
length-output_reverse f c ps is = length-output f c (reverse ps) is ∙ ap (λ k. c * k) (length-reverse ps)

-- the bytes of the first n pixels
pub take-output : (f c n : ℕ) (ps : List RgbaPixel) → IsChannels c → n ≤ length ps → take (c * n) (output f c ps) ≡ output f c (take n ps)
take-output f c zero ps is h = let e : c * 0 ≡ 0 = omega arith in rw e refl
take-output f c (suc n) [] is h = absurd (omega arith)
take-output f c (suc n) (p ∷ ps) is h =
    let e : c * suc n ≡ length (pixel_bytes f c p) + c * n = omega (arith, mul-suc c n, length-pixel_bytes f c p is) in
    rw e (take-append-add (pixel_bytes f c p) (output f c ps) (c * n) ∙ ap (λ z. pixel_bytes f c p ++ z) (take-output f c n ps is (omega arith)))

-- all of a list
pub take_whole : {A : Type 0} (n : ℕ) (xs : List A) → length xs ≡ n → take n xs ≡ xs
take_whole n xs e = rw (← e) (take-length xs)
