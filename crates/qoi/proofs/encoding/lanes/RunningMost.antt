-- The running maximum by four shifts.
use Rattle.std.proofs.Common.{◌≡◌, ◌⊎◌, inl, inr, ℕ, zero, suc, ◌+◌, ◌-◌, ◌<◌, ◌≤◌, Bool, true, false, List, [], ◌∷◌, ◌++◌, length, take, replicate, slice_index, get_or, ◌%◌, if◌then◌else◌, refl, sym, ap, ◌∙◌, arith, subst}
use Rattle.std.specs.Prelude.{max}
use Rattle.std.proofs.lemmas.Bool.{cases_lt}
use Rattle.std.proofs.lemmas.List.{get_or-take, get_or-append_right, length-append, length-take-le}
use Rattle.std.proofs.lemmas.Simd.{get_or-zip2, length-replicate, length-zip2}
use lib.Lanes.{zip2}
use Rattle.qoi.specs.inner.block.Vectors.{IsMost, counts}

-- 0 at a repeat, else 64 and the index
abbrev pub AreStamps : List Bool → List ℕ → Type 0
AreStamps rs xs = (length xs ≡ 16) × ((k : ℕ) → k < 16 → slice_index xs k ≡ (if get_or rs k true then 0 else 64 + k))

-- the lanes, s further on
abbrev shifted : ℕ → List ℕ → List ℕ
shifted s xs = replicate s 0 ++ take (16 - s) xs

-- the first s are 0
front_zero : (s k : ℕ) (ys : List ℕ) → k < s → slice_index (replicate s 0 ++ ys) k ≡ 0
front_zero zero k ys l = absurd (omega arith)
front_zero (suc s) zero ys l = refl
front_zero (suc s) (suc k) ys l = front_zero s k ys (omega arith)

-- the others are those of s before
back_is : (s k : ℕ) (xs : List ℕ) → s ≤ k → k < 16 → slice_index (shifted s xs) k ≡ slice_index xs (k - s)
back_is s k xs le lt = get_or-append_right (replicate s 0) (take (16 - s) xs) s k 0 (length-replicate s 0) le ∙ get_or-take (16 - s) xs (k - s) 0 (omega arith)

-- there are sixteen
long_shifted : (s : ℕ) (xs : List ℕ) → s ≤ 16 → length xs ≡ 16 → length (shifted s xs) ≡ 16
long_shifted s xs le e = let z : ℕ = 0 in omega (arith, length-append (replicate s z) (take (16 - s) xs), length-replicate s z, length-take-le (16 - s) xs (omega arith))

-- members that one lane has
pub one_most : (xs : List ℕ) → ((k : ℕ) → k < 16 → IsMost xs 1 k (slice_index xs k))
one_most xs k lt = record { above = λ j le l. (let e : j ≡ k = omega arith in subst (λ z. slice_index xs z ≤ slice_index xs k) (sym e) (omega arith)); one_of = inr (k, omega arith, refl) }

-- twice as many
pub twice_most : (xs ms ns : List ℕ) (s t : ℕ) → s ≤ 16 → t ≡ s + s → length ms ≡ 16 → ((k : ℕ) → k < 16 → IsMost xs s k (slice_index ms k)) → ns ≡ zip2 max ms (shifted s ms) → ((k : ℕ) → k < 16 → IsMost xs t k (slice_index ns k))
twice_most xs ms ns s t le te long are is k lt = go (cases_lt k s)
  where
    at : slice_index ns k ≡ max (slice_index ms k) (slice_index (shifted s ms) k)
    at = ap (λ z. slice_index z k) is ∙ get_or-zip2 max ms (shifted s ms) k 0 0 0 (omega arith) (omega (arith, long_shifted s ms le long))

    go : (k < s) ⊎ (s ≤ k) → IsMost xs t k (slice_index ns k)
    go (inl few) =
        let m = are k lt in
        let e : slice_index ns k ≡ slice_index ms k = omega (arith, at, front_zero s k (take (16 - s) ms) few) in
        record {
          above = λ j le l. (let a = m.above j le (omega arith) in omega arith);
          one_of = subst (λ z. (z ≡ 0) ⊎ ((j : ℕ) × (j ≤ k) × (z ≡ slice_index xs j))) (sym e) m.one_of;
        }
    go (inr many) =
        let m = are k lt in
        let n = are (k - s) (omega arith) in
        let e : slice_index ns k ≡ max (slice_index ms k) (slice_index ms (k - s)) = at ∙ ap (max (slice_index ms k)) (back_is s k ms many lt) in
        record {
          above = λ j le l. above_one m n e j le l (cases_lt k (j + s));
          one_of = pick m n e (cases_lt (slice_index ms k) (slice_index ms (k - s)));
        }
      where
        above_one : IsMost xs s k (slice_index ms k) → IsMost xs s (k - s) (slice_index ms (k - s)) → slice_index ns k ≡ max (slice_index ms k) (slice_index ms (k - s))
            → (j : ℕ) → j ≤ k → k < j + t → (k < j + s) ⊎ (j + s ≤ k) → slice_index xs j ≤ slice_index ns k
        above_one m n e j le l (inl near) = let a = m.above j le near in omega arith
        above_one m n e j le l (inr far) = let a = n.above j (omega arith) (omega arith) in omega arith

        pick : IsMost xs s k (slice_index ms k) → IsMost xs s (k - s) (slice_index ms (k - s)) → slice_index ns k ≡ max (slice_index ms k) (slice_index ms (k - s))
            → (slice_index ms k < slice_index ms (k - s)) ⊎ (slice_index ms (k - s) ≤ slice_index ms k) → (slice_index ns k ≡ 0) ⊎ ((j : ℕ) × (j ≤ k) × (slice_index ns k ≡ slice_index xs j))
        pick m n e (inl less) =
            let f : slice_index ns k ≡ slice_index ms (k - s) = omega arith in
            subst (λ z. (z ≡ 0) ⊎ ((j : ℕ) × (j ≤ k) × (z ≡ slice_index xs j))) (sym f)
            (elim n.one_of [ inl none ↦ inl none | inr some ↦ inr (some.0, (let l = some.1 in omega arith), some.2) ])
        pick m n e (inr more) =
            let f : slice_index ns k ≡ slice_index ms k = omega arith in
            subst (λ z. (z ≡ 0) ⊎ ((j : ℕ) × (j ≤ k) × (z ≡ slice_index xs j))) (sym f) m.one_of

-- there are still sixteen
pub long_next : (ms ns : List ℕ) (s : ℕ) → s ≤ 16 → length ms ≡ 16 → ns ≡ zip2 max ms (shifted s ms) → length ns ≡ 16
long_next ms ns s le long is = ap length is ∙ length-zip2 max ms (shifted s ms) (long ∙ sym (long_shifted s ms le long)) ∙ long

-- from the running maximum to the counts

-- lanes that count on from the one before, or begin anew
counts_by : (c : ℕ) (rs : List Bool) (ys : List ℕ) → length ys ≡ length rs
    → ((k : ℕ) → k < length rs → slice_index ys k ≡ (if get_or rs k true then suc (slice_index (c ∷ ys) k) else 0)) → ys ≡ counts c rs
counts_by c [] [] e step = refl
counts_by c (r ∷ rs) (y ∷ ys) e step =
    let n = if r then suc c else 0 in
    let first : y ≡ n = step 0 (omega arith) in
    (λ i. first i ∷ counts_by n rs ys (omega arith) (λ k l. rest k l) i)
  where
    rest : (k : ℕ) → k < length rs → slice_index ys k ≡ (if get_or rs k true then suc (slice_index ((if r then suc c else 0) ∷ ys) k) else 0)
    rest zero l = step 1 (omega arith) ∙ ap (λ z. if get_or rs 0 true then suc z else 0) (step 0 (omega arith))
    rest (suc k) l = step (suc (suc k)) (omega arith)
counts_by c rs ys e step = absurd (omega arith)

-- the difference of two bytes
abbrev pub less : ℕ → ℕ → ℕ
less a b = (a + (256 - b)) % 256

module _ (rs : List Bool) (c : ℕ) (xs ms ys : List ℕ) (few : c < 62) (stamped : AreStamps rs xs) (most : ((k : ℕ) → k < 16 → IsMost xs 16 k (slice_index ms k)))
    (is : (k : ℕ) → k < 16 → slice_index ys k ≡ less (64 + k) (max (slice_index ms k) (63 - c))) where
  -- a member that was stamped is its index, or 0
  stamp_below : (k : ℕ) → k < 16 → slice_index xs k ≤ 64 + k
  stamp_below k lt = grind (arith, stamped.1 k lt)

  -- the running maximum is no more than its lane
  most_below : (k : ℕ) → k < 16 → slice_index ms k ≤ 64 + k
  most_below k lt = elim (most k lt).one_of [
    | inl none ↦ omega arith
    | inr some ↦ (let le = some.1 in omega (arith, stamp_below some.0 (omega arith), some.2))
  ]

  -- a fresh lane counts none
  fresh_at : (k : ℕ) → k < 16 → get_or rs k true ≡ false → slice_index ys k ≡ 0
  fresh_at k lt e =
      let x : slice_index xs k ≡ 64 + k = stamped.1 k lt ∙ ap (λ b. if b then 0 else 64 + k) e in
      omega (arith, is k lt, most_below k lt, (most k lt).above k (omega arith) (omega arith))

  -- a repeat is not stamped
  stamp_none : (k : ℕ) → k < 16 → get_or rs k true ≡ true → slice_index xs k ≡ 0
  stamp_none k lt e = stamped.1 k lt ∙ ap (λ b. if b then 0 else 64 + k) e

  -- a repeat in the first lane counts on
  repeat_first : get_or rs 0 true ≡ true → slice_index ys 0 ≡ suc c
  repeat_first e =
      let m : slice_index ms 0 ≡ 0 = elim (most 0 (omega arith)).one_of [
        | inl none ↦ none
        | inr some ↦ (let le = some.1 in some.2 ∙ ap (slice_index xs) (omega arith) ∙ stamp_none 0 (omega arith) e)
      ] in
      omega (arith, is 0 (omega arith))

  -- a repeat leaves the running maximum
  same_most : (k : ℕ) → suc k < 16 → get_or rs (suc k) true ≡ true → slice_index ms (suc k) ≡ slice_index ms k
  same_most k lt e = antisym (elim (most (suc k) lt).one_of [
    | inl none ↦ omega arith
    | inr some ↦ low some.0 some.1 some.2 (cases_lt some.0 (suc k))
  ]) (elim (most k (omega arith)).one_of [
    | inl none ↦ omega arith
    | inr some ↦ (let le = some.1 in omega (arith, some.2, (most (suc k) lt).above some.0 (omega arith) (omega arith)))
  ])
    where
      antisym : slice_index ms (suc k) ≤ slice_index ms k → slice_index ms k ≤ slice_index ms (suc k) → slice_index ms (suc k) ≡ slice_index ms k
      antisym a b = omega arith

      low : (j : ℕ) → j ≤ suc k → slice_index ms (suc k) ≡ slice_index xs j → (j < suc k) ⊎ (suc k ≤ j) → slice_index ms (suc k) ≤ slice_index ms k
      low j le s (inl l) = omega (arith, (most k (omega arith)).above j (omega arith) (omega arith))
      low j le s (inr l) = (let z : slice_index xs j ≡ 0 = ap (slice_index xs) (omega arith) ∙ stamp_none (suc k) lt e in omega arith)

  -- a repeat counts on from the lane before
  repeat_at : (k : ℕ) → suc k < 16 → get_or rs (suc k) true ≡ true → slice_index ys (suc k) ≡ suc (slice_index ys k)
  repeat_at k lt e = omega (arith, is (suc k) lt, is k (omega arith), same_most k lt e, most_below k (omega arith))

  -- each lane counts on or begins anew
  at_lane : (k : ℕ) → k < 16 → slice_index ys k ≡ (if get_or rs k true then suc (slice_index (c ∷ ys) k) else 0)
  at_lane k lt = go k lt (get_or rs k true) refl
    where
      go : (k : ℕ) → k < 16 → (b : Bool) → get_or rs k true ≡ b → slice_index ys k ≡ (if get_or rs k true then suc (slice_index (c ∷ ys) k) else 0)
      go k lt false e = fresh_at k lt e ∙ sym (ap (λ b. if b then suc (slice_index (c ∷ ys) k) else 0) e)
      go zero lt true e = repeat_first e ∙ sym (ap (λ b. if b then suc c else 0) e)
      go (suc k) lt true e = repeat_at k lt e ∙ sym (ap (λ b. if b then suc (slice_index ys k) else 0) e)

  -- the repeats that each lane counts
  pub counted : length rs ≡ 16 → length ys ≡ 16 → ys ≡ counts c rs
  counted lr ly = counts_by c rs ys (ly ∙ sym lr) (λ k l. at_lane k (omega arith))
