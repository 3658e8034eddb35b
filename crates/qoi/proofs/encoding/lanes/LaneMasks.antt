-- Masks of bytes, the lesser and the greater of bytes, lane by lane; and the bits of masks.
use Rattle.std.proofs.Common.{◌≡◌, ℕ, zero, suc, ◌+◌, ◌*◌, ◌%◌, ◌^◌, ◌&&◌, Bool, true, false, not, eqb, ltb, ◌==◌, cond, List, [], ◌∷◌, length, map, replicate, refl, sym, ap, ◌∙◌, arith, w8}
use Rattle.std.specs.Prelude.{min, max}
use Rattle.std.specs.List.{list_all}
use Rattle.std.proofs.lemmas.List.{length-map}
use Rattle.std.proofs.lemmas.Simd.{bitmask_splat}
use lib.Lanes.{zip2, mask_l, sel_l, top}
use Rattle.qoi.specs.inner.block.Lanes.{mask}

-- 255 if both are the same
abbrev pub same : ℕ → ℕ → ℕ
same a b = cond (eqb a b) 255 0

-- 255 if the first is less
abbrev pub below : ℕ → ℕ → ℕ
below a b = cond (ltb a b) 255 0

-- a choice by the highest bit of a mask
picked : (b : Bool) (x y : ℕ) → cond (top 7 (cond b 255 0)) x y ≡ cond b x y
picked true x y = refl
picked false x y = refl

-- which of n bytes are y
pub lanes_are : (y n : ℕ) (xs : List ℕ) → length xs ≡ n
    → sel_l (map (top 7) (zip2 same xs (replicate n y))) (replicate n 255) (replicate n 0) ≡ map (λ x. mask (x == y)) xs
lanes_are y zero [] e = refl
lanes_are y (suc n) (x ∷ xs) e = λ i. picked (eqb x y) 255 0 i ∷ lanes_are y n xs (omega arith) i
lanes_are y n xs e = absurd (omega arith)

-- the lesser of two
less : (a b : ℕ) → cond (top 7 (cond (ltb a b) 255 0)) a b ≡ min a b
less a b = picked (ltb a b) a b ∙ grind arith

-- the greater of two
more : (a b : ℕ) → cond (top 7 (cond (ltb a b) 255 0)) b a ≡ max a b
more a b = picked (ltb a b) b a ∙ grind arith

-- the lesser, lane by lane
pub lesser_lanes : (xs ys : List ℕ) → sel_l (map (top 7) (zip2 below xs ys)) xs ys ≡ zip2 min xs ys
lesser_lanes (x ∷ xs) (y ∷ ys) = λ i. less x y i ∷ lesser_lanes xs ys i
lesser_lanes xs ys = refl

-- the greater, lane by lane
pub greater_lanes : (xs ys : List ℕ) → sel_l (map (top 7) (zip2 below xs ys)) ys xs ≡ zip2 max xs ys
greater_lanes (x ∷ xs) (y ∷ ys) = λ i. more x y i ∷ greater_lanes xs ys i
greater_lanes xs ys = refl

-- n bits that are set
abbrev ones : ℕ → ℕ
ones zero = 0
ones (suc n) = 1 + 2 * ones n

-- the lowest bit and the others
one_more : (b : Bool) (m k : ℕ) → eqb (cond b 1 0 + 2 * m) (1 + 2 * k) ≡ (b && eqb m k)
one_more b m k = grind arith

-- all bits are set exactly if all hold
mask_ones : (bs : List Bool) → eqb (mask_l bs) (ones (length bs)) ≡ list_all (λ b. b) bs
mask_ones [] = refl
mask_ones (b ∷ bs) = one_more b (mask_l bs) (ones (length bs)) ∙ ap (λ z. b && z) (mask_ones bs)

-- which bytes are 255
set_is : (bs : List Bool) → map (λ x. eqb x 255) (map mask bs) ≡ bs
set_is [] = refl
set_is (true ∷ bs) = ap (λ z. true ∷ z) (set_is bs)
set_is (false ∷ bs) = ap (λ z. false ∷ z) (set_is bs)

-- which are 0
unset_is : (bs : List Bool) → map (λ x. eqb x 0) (map mask bs) ≡ map not bs
unset_is [] = refl
unset_is (true ∷ bs) = ap (λ z. false ∷ z) (unset_is bs)
unset_is (false ∷ bs) = ap (λ z. true ∷ z) (unset_is bs)

-- the bits of the bytes that are n
abbrev pub bits_at : ℕ → List ℕ → ℕ
bits_at n xs = mask_l (map (top 7) (zip2 same xs (replicate 16 n))) % 2 ^ 64

-- those of 255 are all set exactly if all hold
pub all_bits : (bs : List Bool) (xs : List ℕ) → length bs ≡ 16 → xs ≡ map mask bs → eqb (bits_at 255 xs) 65535 ≡ list_all (λ b. b) bs
all_bits bs xs long is =
    ap (λ z. eqb (bits_at 255 z) 65535) is
    ∙ ap (λ n. eqb n 65535) (bitmask_splat w8 eqb (map mask bs) 16 255 (length-map bs mask ∙ long) (omega arith) ∙ ap mask_l (set_is bs))
    ∙ ap (λ n. eqb (mask_l bs) (ones n)) (sym long) ∙ mask_ones bs

-- those of 0 are of what doesn't hold
pub unset_marks : (bs : List Bool) (xs : List ℕ) → length bs ≡ 16 → xs ≡ map mask bs → bits_at 0 xs ≡ mask_l (map not bs)
unset_marks bs xs long is =
    ap (bits_at 0) is ∙ bitmask_splat w8 eqb (map mask bs) 16 0 (length-map bs mask ∙ long) (omega arith) ∙ ap mask_l (unset_is bs)
