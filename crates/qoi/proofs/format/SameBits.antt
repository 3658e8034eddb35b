-- Bits that say which bytes of two vectors are the same.
use Rattle.std.proofs.Common.{◌≡◌, ℕ, zero, suc, ◌+◌, ◌*◌, ◌%◌, ◌^◌, ◌≤◌, eqb, List, [], ◌∷◌, length, take, drop, map, cond, arith, refl, ap, ◌∙◌, pow-suc, w8}
use Rattle.std.proofs.lemmas.Simd.{tops_compared, mask_l-mod, length-zip2}
use lib.Lanes.{zip2, mask_l, top}

-- which of the bytes are the same: a bit for each
abbrev pub same_bits : List ℕ → List ℕ → ℕ
same_bits xs ys = mask_l (zip2 eqb xs ys)

-- a comparison's bits
pub compared_bits : (xs ys : List ℕ) → length xs ≡ length ys → length xs ≤ 64
    → mask_l (map (top 7) (zip2 (λ a b. cond (eqb a b) 255 0) xs ys)) % 2 ^ 64 ≡ same_bits xs ys
compared_bits xs ys e l = ap (λ ms. mask_l ms % 2 ^ 64) (tops_compared w8 eqb xs ys)
    ∙ mask_l-mod (zip2 eqb xs ys) 64 (omega (arith, length-zip2 eqb xs ys e))

-- those of the first n bytes, and of the others
pub parted : (n : ℕ) (xs ys : List ℕ) → n ≤ length xs → n ≤ length ys
    → same_bits xs ys ≡ same_bits (take n xs) (take n ys) + 2 ^ n * same_bits (drop n xs) (drop n ys)
parted zero xs ys l m = omega arith
parted (suc n) (x ∷ xs) (y ∷ ys) l m =
    let rest = same_bits (drop n xs) (drop n ys) in
    let power : 2 ^ suc n * rest ≡ 2 * (2 ^ n * rest) = doubled n rest in
    omega (arith, parted n xs ys (omega arith) (omega arith), power)
  where
    doubled : (n m : ℕ) → 2 ^ suc n * m ≡ 2 * (2 ^ n * m)
    doubled n m = rw (pow-suc 2 n) (omega arith)
parted n xs ys l m = absurd (omega arith)

-- beside `[]` no bits are set
pub none_beside : (xs : List ℕ) → same_bits xs [] ≡ 0
none_beside [] = refl
none_beside (x ∷ xs) = refl
