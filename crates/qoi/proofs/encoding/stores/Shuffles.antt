-- A shuffle of sixteen bytes by positions, and the bytes of four numbers.
use Rattle.std.proofs.Common.{◌≡◌, ℕ, suc, ◌+◌, ◌*◌, ◌/◌, ◌%◌, ◌<◌, ◌≤◌, ◌&&◌, Bool, true, false, cond, eqb, ltb, List, [], ◌∷◌, ◌++◌, length, take, map, get_or, w8, refl, sym, ap, ◌∙◌, arith}
use Rattle.std.proofs.lemmas.Bool.{and_parts, ltb-true}
use Rattle.std.proofs.lemmas.List.{take-map, map-append}
use Rattle.std.proofs.lemmas.Simd.{swz_l, SwzOk}
use lib.Lanes.{all_below, digits_l, number_l}
use mir.Val.{zeroes}

-- sixteen positions in a vector
abbrev pub are_positions : List ℕ → Bool
are_positions js = all_below 16 js && eqb (length js) 16

-- what stands at a position
abbrev pub at : List ℕ → ℕ → ℕ
at v j = get_or v j 0

-- a shuffle reads these positions
pub shuffled : (v : List ℕ) (i : ℕ) (js : List ℕ) → i + length js ≤ 16 → all_below 16 js ≡ true → swz_l w8 16 v i js ≡ map (at v) js
shuffled v i [] l b = refl
shuffled v i (j ∷ js) l b =
    let p = and_parts (ltb j 16) (all_below 16 js) b in
    let low = ltb-true j 16 p.0 in
    let kept : zeroes 16 w8 j ≡ false = grind arith in
    let here : 16 * (i / 16) + j ≡ j = omega arith in
    λ k. cond (kept k) 0 (get_or v (here k) 0) ∷ shuffled v (suc i) js (omega arith) p.1 k

-- and may read them
pub may_shuffle : (i : ℕ) (js : List ℕ) → i + length js ≤ 16 → all_below 16 js ≡ true → SwzOk w8 16 16 i js
may_shuffle i [] l b = tt
may_shuffle i (j ∷ js) l b =
    let p = and_parts (ltb j 16) (all_below 16 js) b in
    let low = ltb-true j 16 p.0 in
    (grind arith, may_shuffle (suc i) js (omega arith) p.1)

-- a number's four bytes, and those of what is above
pub number_bytes : (n a r : ℕ) → a < 4294967296 → digits_l 256 (suc (suc (suc (suc n)))) (a + 4294967296 * r) ≡ digits_l 256 4 a ++ digits_l 256 n r
number_bytes n a r lt =
    let b0 : (a + 4294967296 * r) % 256 ≡ a % 256 = omega arith in
    let b1 : (a + 4294967296 * r) / 256 % 256 ≡ a / 256 % 256 = omega arith in
    let b2 : (a + 4294967296 * r) / 256 / 256 % 256 ≡ a / 256 / 256 % 256 = omega arith in
    let b3 : (a + 4294967296 * r) / 256 / 256 / 256 % 256 ≡ a / 256 / 256 / 256 % 256 = omega arith in
    let above : (a + 4294967296 * r) / 256 / 256 / 256 / 256 ≡ r = omega arith in
    λ i. b0 i ∷ b1 i ∷ b2 i ∷ b3 i ∷ digits_l 256 n (above i)

-- the bytes of four
pub four_bytes : (a b c d : ℕ) → a < 4294967296 → b < 4294967296 → c < 4294967296 → d < 4294967296
    → digits_l 256 16 (number_l 4294967296 (a ∷ b ∷ c ∷ d ∷ [])) ≡ digits_l 256 4 a ++ (digits_l 256 4 b ++ (digits_l 256 4 c ++ digits_l 256 4 d))
four_bytes a b c d la lb lc ld =
    number_bytes 12 a (number_l 4294967296 (b ∷ c ∷ d ∷ [])) la
    ∙ ap (λ z. digits_l 256 4 a ++ z) (number_bytes 8 b (number_l 4294967296 (c ∷ d ∷ [])) lb
    ∙ ap (λ z. digits_l 256 4 b ++ z) (number_bytes 4 c (number_l 4294967296 (d ∷ [])) lc
    ∙ ap (λ z. digits_l 256 4 c ++ z) (number_bytes 0 d 0 ld)))

-- what stands at some of the positions, and at others
pub part_of : (v : List ℕ) (n : ℕ) (js rest xs ys : List ℕ) → map (at v) js ≡ xs → map (at v) rest ≡ ys → map (at v) (take n js ++ rest) ≡ take n xs ++ ys
part_of v n js rest xs ys first others = map-append (at v) (take n js) rest ∙ (λ j. sym (take-map (at v) n js) j ++ others j) ∙ ap (λ z. take n z ++ ys) first
