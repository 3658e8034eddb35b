-- The bytes of a number that is made of them.
use Rattle.std.proofs.Common.{◌≡◌, ℕ, ◌+◌, ◌*◌, ◌/◌, ◌%◌, ◌<◌, List, [], ◌∷◌, length, arith, refl, ap, ◌∙◌}
use lib.Lanes.{Each1, number_l, digits_l}

-- the bytes of a number are those that make it up
bytes_of_number : (xs : List ℕ) → Each1 (λ x. x < 256) xs → digits_l 256 (length xs) (number_l 256 xs) ≡ xs
bytes_of_number [] below = refl
bytes_of_number (x ∷ xs) below =
    let first : (x + 256 * number_l 256 xs) % 256 ≡ x = omega (arith, below.0) in
    let rest : (x + 256 * number_l 256 xs) / 256 ≡ number_l 256 xs = omega (arith, below.0) in
    (λ i. first i ∷ digits_l 256 (length xs) (rest i)) ∙ ap (λ z. x ∷ z) (bytes_of_number xs below.1)

-- Four bytes make up n, which with 2 ^ 32 and 1 multiplied is a lane: two such lanes have them four times.
pub four_times : (r g b a n : ℕ) → r < 256 → g < 256 → b < 256 → a < 256 → n ≡ (r + g * 256 + b * 65536 + a * 16777216) * 4294967297
    → digits_l 256 16 (n + 18446744073709551616 * (n + 0)) ≡ r ∷ g ∷ b ∷ a ∷ r ∷ g ∷ b ∷ a ∷ r ∷ g ∷ b ∷ a ∷ r ∷ g ∷ b ∷ a ∷ []
four_times r g b a n lr lg lb la is =
    let bytes = r ∷ g ∷ b ∷ a ∷ r ∷ g ∷ b ∷ a ∷ r ∷ g ∷ b ∷ a ∷ r ∷ g ∷ b ∷ a ∷ [] in
    let same : n + 18446744073709551616 * (n + 0) ≡ number_l 256 bytes = omega (arith, is) in
    ap (λ z. digits_l 256 16 z) same ∙ bytes_of_number bytes (lr, (lg, (lb, (la, (lr, (lg, (lb, (la, (lr, (lg, (lb, (la, (lr, (lg, (lb, (la, tt))))))))))))))))
