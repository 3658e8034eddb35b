-- Tables of constants, entry by entry.
use Rattle.std.proofs.Common.{◌≡◌, ℕ, zero, suc, ◌+◌, ◌-◌, ◌<◌, ◌≤◌, ◌&&◌, Bool, true, List, [], ◌∷◌, length, take, drop, get_or, eqb, eqb-true, arith, ap, subst, ◌∙◌, length-drop, length-take-le, get_or-take, get_or-drop}
use Rattle.std.proofs.lemmas.Bool.{and_parts}

-- each entry passes a test of its number and itself; the numbers go up by one from i
abbrev pub pass : (ℕ → ℕ → Bool) → ℕ → List ℕ → Bool
pass test i [] = true
pass test i (x ∷ xs) = test i x && pass test (i + 1) xs

-- so does the entry that stands k after the first
pass_at : (test : ℕ → ℕ → Bool) (i k : ℕ) (xs : List ℕ) → pass test i xs ≡ true → k < length xs → test (i + k) (get_or xs k 0) ≡ true
pass_at test i k [] all inside = absurd (omega arith)
pass_at test i zero (x ∷ xs) all inside = let e : i + 0 ≡ i = omega arith in rw e ((and_parts (test i x) (pass test (i + 1) xs) all).0)
pass_at test i (suc k) (x ∷ xs) all inside =
    let e : i + suc k ≡ i + 1 + k = omega arith in
    rw e (pass_at test (i + 1) k xs ((and_parts (test i x) (pass test (i + 1) xs) all).1) (omega arith))

-- In a table from `begin` on, if the entries of the n bytes from `from` on pass a test of byte and
-- entry, so does b's, one of these.
pub entry : (table : List ℕ) (test : ℕ → ℕ → Bool) (begin from n b i : ℕ) → i ≡ begin + b → pass test from (take n (drop (begin + from) table)) ≡ true → from ≤ b → b < from + n
    → begin + from + n ≤ length table → test b (get_or table i 0) ≡ true
entry table test begin from n b i is all low high within =
    let rest = drop (begin + from) table in
    let k = b - from in
    let size : n ≤ length rest = omega (arith, within, length-drop (begin + from) table) in
    let at : from + k ≡ b = omega (arith, low) in
    let index : begin + from + k ≡ i = omega (arith, is, low) in
    let value : get_or (take n rest) k 0 ≡ get_or table i 0 = get_or-take n rest k 0 (omega (arith, low, high)) ∙ get_or-drop (begin + from) table k 0 ∙ ap (λ j. get_or table j 0) index in
    subst (λ j. test j (get_or table i 0) ≡ true) at (subst (λ x. test (from + k) x ≡ true) value (pass_at test from k (take n rest) all (omega (arith, low, high, length-take-le n rest size))))

-- so an entry is the number that is said of its byte
pub value_at : (table : List ℕ) (value : ℕ → ℕ) (begin from n b i : ℕ) → i ≡ begin + b → pass (λ b x. eqb x (value b)) from (take n (drop (begin + from) table)) ≡ true
    → from ≤ b → b < from + n → begin + from + n ≤ length table → get_or table i 0 ≡ value b
value_at table value begin from n b i is all low high within = eqb-true _ _ (entry table (λ b x. eqb x (value b)) begin from n b i is all low high within)
