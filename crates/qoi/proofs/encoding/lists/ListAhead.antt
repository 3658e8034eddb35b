-- The list that is still to be written, over the repeats of a group and over a fresh pixel.
use Rattle.std.proofs.Common.{◌≡◌, ◌≢◌, ◌⊎◌, inl, inr, ℕ, zero, suc, ◌+◌, ◌*◌, ◌/◌, ◌%◌, List, [], ◌∷◌, ◌++◌, replicate, Some, refl, sym, ap, ◌∙◌, arith, append-nil}
use Rattle.std.proofs.lemmas.Bool.{cond-true, cond-false}
use Rattle.std.specs.List.{slice_get}
use Rattle.qoi.specs.Qoi.{Chunk, Run, RgbaPixel, Past, pixel_eq, previous}
use Rattle.qoi.specs.Runs.{last_by, runs_by}
use Rattle.qoi.specs.WrittenList.{list_after}
use Rattle.qoi.proofs.format.ChunkSteps.{previous_repeats, repeats_after}
use Rattle.qoi.proofs.format.SamePixels.{cases_pixel, pixel_eq-from, pixel_eq-ne}

-- zero repeats have no runs
pub runs_none : runs_by (Run 1) 0 ≡ []
unfolding runs_by
runs_none = refl

-- 62 repeats more are a full run more
runs_more : (n : ℕ) → runs_by (Run 1) (62 + n) ≡ Run 62 ∷ runs_by (Run 1) n
unfolding runs_by
runs_more n =
    let full : (62 + n) / 62 ≡ suc (n / 62) = omega arith in
    let left : (62 + n) % 62 ≡ n % 62 = omega arith in
    λ i. replicate (full i) (Run 62) ++ last_by (Run 1) (left i)

-- k full runs
pub runs_full : (k : ℕ) → runs_by (Run 1) (62 * k) ≡ replicate k (Run 62)
unfolding runs_by
runs_full k =
    let full : 62 * k / 62 ≡ k = omega arith in
    let none : 62 * k % 62 ≡ 0 = omega arith in
    (λ i. replicate (full i) (Run 62) ++ last_by (Run 1) (none i)) ∙ append-nil (replicate k (Run 62))

module _ (choose : Past → RgbaPixel → Chunk) where
  -- at the end nothing is ahead
  pub none_ahead : (past : Past) → list_after choose past 0 [] ≡ []
  unfolding list_after runs_by
  none_ahead past = refl

  -- a repeat joins those that came
  pub repeat_ahead : (past : Past) (n : ℕ) (p : RgbaPixel) (rest : List RgbaPixel) → p ≡ previous past
      → list_after choose past n (p ∷ rest) ≡ list_after choose past (suc n) rest
  unfolding list_after
  repeat_ahead past n p rest same = cond-true (pixel_eq p (previous past)) _ _ (pixel_eq-from p (previous past) same)

  -- so do several
  pub repeats_ahead : (k : ℕ) (past : Past) (n : ℕ) (rest : List RgbaPixel)
      → list_after choose past n (replicate k (previous past) ++ rest) ≡ list_after choose past (n + k) rest
  repeats_ahead zero past n rest = ap (λ m. list_after choose past m rest) (omega arith)
  repeats_ahead (suc k) past n rest =
      repeat_ahead past n (previous past) (replicate k (previous past) ++ rest) refl ∙ repeats_ahead k past (suc n) rest
      ∙ ap (λ m. list_after choose past m rest) (omega arith)

  -- before a fresh pixel their runs are next, and then its chunk
  pub fresh_ahead : (past : Past) (n : ℕ) (p : RgbaPixel) (rest : List RgbaPixel) → p ≢ previous past
      → list_after choose past n (p ∷ rest)
      ≡ runs_by (Run 1) n ++ choose (replicate n (previous past) ++ past) p ∷ list_after choose (p ∷ replicate n (previous past) ++ past) 0 rest
  unfolding list_after
  fresh_ahead past n p rest fresh = cond-false (pixel_eq p (previous past)) _ _ (pixel_eq-ne p (previous past) fresh)

  -- its chunk alone, if there are none
  pub chunk_ahead : (past : Past) (p : RgbaPixel) (rest : List RgbaPixel) → p ≢ previous past
      → list_after choose past 0 (p ∷ rest) ≡ choose past p ∷ list_after choose (p ∷ past) 0 rest
  unfolding runs_by
  chunk_ahead past p rest fresh = fresh_ahead past 0 p rest fresh

  -- a full run is next, if 62 repeats came and others, or none
  full_ahead : (rest : List RgbaPixel) (past : Past) (n : ℕ)
      → list_after choose past (62 + n) rest ≡ Run 62 ∷ list_after choose (replicate 62 (previous past) ++ past) n rest
  unfolding list_after
  full_ahead [] past n = runs_more n
  full_ahead (p ∷ rest) past n =
      let q = previous past in
      let full : Past = replicate 62 q ++ past in
      elim (cases_pixel p q) as (λ _. list_after choose past (62 + n) (p ∷ rest) ≡ Run 62 ∷ list_after choose full n (p ∷ rest)) [
        | inl same ↦
            repeat_ahead past (62 + n) p rest same ∙ ap (λ m. list_after choose past m rest) (omega arith) ∙ full_ahead rest past (suc n)
            ∙ ap (λ cs. Run 62 ∷ cs) (sym (repeat_ahead full n p rest same))
        | inr fresh ↦
            let joined : replicate n q ++ full ≡ replicate (62 + n) q ++ past = repeats_after n 62 q past ∙ ap (λ m. replicate m q ++ past) (omega arith) in
            fresh_ahead past (62 + n) p rest fresh
            ∙ (λ i. runs_more n i ++ choose (sym joined i) p ∷ list_after choose (p ∷ sym joined i) 0 rest)
            ∙ ap (λ cs. Run 62 ∷ cs) (sym (fresh_ahead full n p rest fresh))
      ]

  -- and several
  pub fulls_ahead : (k : ℕ) (past : Past) (n : ℕ) (rest : List RgbaPixel)
      → list_after choose past (62 * k + n) rest ≡ replicate k (Run 62) ++ list_after choose (replicate (62 * k) (previous past) ++ past) n rest
  fulls_ahead zero past n rest = ap (λ m. list_after choose past m rest) (omega arith)
  fulls_ahead (suc k) past n rest =
      let q = previous past in
      let joined : replicate (62 * k) q ++ (replicate 62 q ++ past) ≡ replicate (62 * suc k) q ++ past =
      repeats_after (62 * k) 62 q past ∙ ap (λ m. replicate m q ++ past) (omega arith) in
      ap (λ m. list_after choose past m rest) (omega arith) ∙ full_ahead rest past (62 * k + n)
      ∙ ap (λ cs. Run 62 ∷ cs) (fulls_ahead k (replicate 62 q ++ past) n rest ∙ ap (λ ps. replicate k (Run 62) ++ list_after choose ps n rest) joined)

  -- The runs of a group are next, if no further repeat follows or they are full.
  pub runs_ahead : (past : Past) (n : ℕ) (rest : List RgbaPixel) → (slice_get rest 0 ≢ Some (previous past)) ⊎ (n % 62 ≡ 0)
      → list_after choose past n rest ≡ runs_by (Run 1) n ++ list_after choose (replicate n (previous past) ++ past) 0 rest
  unfolding list_after runs_by
  runs_ahead past n [] ends = sym (append-nil (runs_by (Run 1) n))
  runs_ahead past n (p ∷ rest) (inl other) =
      let fresh : p ≢ previous past = λ e. other (ap Some e) in
      fresh_ahead past n p rest fresh
      ∙ ap (λ cs. runs_by (Run 1) n ++ cs) (sym (chunk_ahead (replicate n (previous past) ++ past) p rest (λ e. fresh (e ∙ previous_repeats n past))))
  runs_ahead past n (p ∷ rest) (inr full) =
      let k = n / 62 in
      let all : n ≡ 62 * k + 0 = omega arith in
      let same : 62 * k ≡ n = omega arith in
      ap (λ m. list_after choose past m (p ∷ rest)) all ∙ fulls_ahead k past 0 (p ∷ rest)
      ∙ (λ i. sym (runs_full k) i ++ list_after choose (replicate (62 * k) (previous past) ++ past) 0 (p ∷ rest))
      ∙ ap (λ m. runs_by (Run 1) m ++ list_after choose (replicate m (previous past) ++ past) 0 (p ∷ rest)) same
