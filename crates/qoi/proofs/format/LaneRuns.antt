-- The lowest bit that isn't set, where bits say which lanes of two vectors agree.
use Rattle.std.proofs.Common.{◌≡◌, ℕ, zero, suc, ◌+◌, ◌-◌, ◌*◌, ◌/◌, ◌%◌, ◌^◌, ◌<◌, ◌≤◌, Bool, true, false, cond, eqb, List, ◌∷◌, length, refl, ap, ◌∙◌, arith, pow_mono, pow-suc}
use Rattle.std.specs.List.{common_prefix_len}
use Rattle.std.proofs.lemmas.Simd.{mask_l-lt}
use lib.Count.{count_trailing_zeros, under}
use lib.Lanes.{zip2, mask_l}

-- a bit that isn't set, and one that is
pub even_under : (n t : ℕ) → n % 2 ≡ 0 → under (n % 2) t ≡ suc t
even_under n t e = ap (λ d. under d t) e

pub odd_under : (n t : ℕ) → n % 2 ≡ 1 → under (n % 2) t ≡ 0
odd_under n t e = ap (λ d. under d t) e

clear_step : (k : ℕ) (b : Bool) (m n c : ℕ) → m < 2 ^ k → n ≡ 2 ^ suc k - 1 - (cond b 1 0 + 2 * m)
    → (n / 2 ≡ 2 ^ k - 1 - m → count_trailing_zeros k (n / 2) ≡ c) → under (n % 2) (count_trailing_zeros k (n / 2)) ≡ cond b (1 + c) 0
clear_step k true m n c l h f =
    even_under n (count_trailing_zeros k (n / 2)) (omega (arith, pow-suc 2 k))
    ∙ omega (arith, f (omega (arith, pow-suc 2 k)))
clear_step k false m n c l h f = odd_under n (count_trailing_zeros k (n / 2)) (omega (arith, pow-suc 2 k))

-- it is in the first lane where they differ
pub first_clear : (k : ℕ) (xs ys : List ℕ) (n : ℕ) → length (zip2 eqb xs ys) ≤ k → n ≡ 2 ^ k - 1 - mask_l (zip2 eqb xs ys)
    → count_trailing_zeros k n ≡ common_prefix_len eqb xs ys
unfolding count_trailing_zeros
first_clear zero (x ∷ xs) (y ∷ ys) n l h = absurd (omega arith)
first_clear zero xs ys n l h = refl
first_clear (suc k) (x ∷ xs) (y ∷ ys) n l h =
    let few : length (zip2 eqb xs ys) ≤ k = omega arith in
    clear_step k (eqb x y) (mask_l (zip2 eqb xs ys)) n (common_prefix_len eqb xs ys)
    (omega (arith, mask_l-lt (zip2 eqb xs ys), pow_mono few)) h (first_clear k xs ys (n / 2) few)
first_clear (suc k) xs ys n l h =
    let some : 2 ^ 0 ≤ 2 ^ k = pow_mono {i = 0} {j = k} (omega arith) in
    odd_under n (count_trailing_zeros k (n / 2)) (omega (arith, pow-suc 2 k))
