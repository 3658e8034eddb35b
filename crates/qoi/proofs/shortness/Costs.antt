-- What a pixel costs: the shortest chunk of a fresh one, and a run of repeats.
use Rattle.std.proofs.Common.{◌≡◌, ◌≢◌, ℕ, zero, suc, ◌+◌, ◌-◌, ◌/◌, ◌%◌, ◌<◌, ◌≤◌, Bool, true, false, cond, eqb, ◌∷◌, ◌++◌, replicate, sym, arith, ◌∙◌}
use Rattle.std.specs.Bool.{Decides}
use Rattle.std.proofs.lemmas.Bool.{cond-true, cond-false, eq-eqb, ne_eqb}
use Rattle.std.specs.List.{list_any, range_with_len}
use Rattle.std.proofs.lemmas.List.FromFn.{length-range_with_len, get_or-range_with_len}
use Rattle.std.proofs.lemmas.List.Folds.{Any-from_list_any, list_any_at}
use Rattle.qoi.specs.Qoi.{Diff, Luma, RgbaPixel, Past, pixel_eq, previous, seen, hash, IsChunk, after_diff, after_luma}
use Rattle.qoi.specs.Shortest.{some_diff, some_luma, least, trailing_repeats, cost, total_cost}
use Rattle.qoi.proofs.format.SamePixels.{pixel_eq-from, pixel_eq-true, pixel_eq-ne}
use Rattle.qoi.proofs.format.ChunkSteps.{previous_repeats}

-- whether some number of a range passes
in_range : (a n : ℕ) (test : ℕ → Bool) → Decides (list_any test (range_with_len a n)) ((d : ℕ) × (a ≤ d) × (d < a + n) × (test d ≡ true))
in_range a n test = (
  λ t.
      let (k, d, within, is, passes) = Any-from_list_any test (range_with_len a n) t in
      let k_is : k < n = omega (arith, within, length-range_with_len a n) in
      let d_is : a + k ≡ d = sym (get_or-range_with_len a n k d k_is) ∙ is in
      (d, omega (arith, d_is), omega (arith, d_is, k_is), passes),
  λ w.
      let at : a + (w.0 - a) ≡ w.0 = omega (arith, w.1) in
      let k_is : w.0 - a < n = omega (arith, w.1, w.2) in
      list_any_at test (range_with_len a n) (w.0 - a) 0 (rw (length-range_with_len a n) k_is) (rw (get_or-range_with_len a n (w.0 - a) 0 k_is, at) w.3),
)

-- a Diff that gives the pixel shows that some does
pub some_diff-from : (q p : RgbaPixel) (d : ℕ) → IsChunk (Diff d) → after_diff q d ≡ p → some_diff q p ≡ true
unfolding some_diff
some_diff-from q p d i e = (in_range 64 64 (λ d. pixel_eq (after_diff q d) p)).1 (d, i.0, i.1, pixel_eq-from _ p e)

-- if some Diff gives the pixel there is one
pub some_diff-true : (q p : RgbaPixel) → some_diff q p ≡ true → (d : ℕ) × IsChunk (Diff d) × (after_diff q d ≡ p)
unfolding some_diff
some_diff-true q p h = let (d, low, high, is) = (in_range 64 64 (λ d. pixel_eq (after_diff q d) p)).0 h in (d, (low, high), pixel_eq-true _ p is)

-- a Luma that gives the pixel shows that some does
pub some_luma-from : (q p : RgbaPixel) (d e : ℕ) → IsChunk (Luma d e) → after_luma q d e ≡ p → some_luma q p ≡ true
unfolding some_luma
some_luma-from q p d e i s =
    (in_range 128 64 (λ d. list_any (λ e. pixel_eq (after_luma q d e) p) (range_with_len 0 256))).1
    (d, i.0, i.1, (in_range 0 256 (λ e. pixel_eq (after_luma q d e) p)).1 (e, omega arith, i.2, pixel_eq-from _ p s))

-- if some Luma gives the pixel there is one
pub some_luma-true : (q p : RgbaPixel) → some_luma q p ≡ true → (d e : ℕ) × IsChunk (Luma d e) × (after_luma q d e ≡ p)
unfolding some_luma
some_luma-true q p h =
    let (d, low, high, some) = (in_range 128 64 (λ d. list_any (λ e. pixel_eq (after_luma q d e) p) (range_with_len 0 256))).0 h in
    let (e, least, most, is) = (in_range 0 256 (λ e. pixel_eq (after_luma q d e) p)).0 some in
    (d, e, (low, high, most), pixel_eq-true _ p is)

-- the fewest bytes of a fresh pixel, by the kinds of chunks that give it
pub record Bounds (past : Past) (p : RgbaPixel) : Type 0 where
  pub low : 1 ≤ least past p
  pub high : least past p ≤ 5
  pub place : seen past (hash p) ≡ p → least past p ≤ 1
  pub diff : some_diff (previous past) p ≡ true → least past p ≤ 1
  pub luma : some_luma (previous past) p ≡ true → least past p ≤ 2
  pub rgb : p.a ≡ (previous past).a → least past p ≤ 4
  -- and by those that don't
  pub no_diff : seen past (hash p) ≢ p → some_diff (previous past) p ≡ false → 2 ≤ least past p
  pub no_luma : seen past (hash p) ≢ p → some_diff (previous past) p ≡ false → some_luma (previous past) p ≡ false → 4 ≤ least past p
  pub no_rgb : seen past (hash p) ≢ p → some_diff (previous past) p ≡ false → some_luma (previous past) p ≡ false → p.a ≢ (previous past).a
      → 5 ≤ least past p

-- they are bounds
pub bounds : (past : Past) (p : RgbaPixel) → Bounds past p
unfolding least
bounds past p = record {
  low = grind arith;
  high = grind arith;
  place = λ e. rw (pixel_eq-from _ p e) (omega arith);
  diff = λ e. grind (arith, e);
  luma = λ e. grind (arith, e);
  rgb = λ e. grind (arith, eq-eqb p.a (previous past).a e);
  no_diff = λ n d. rw (pixel_eq-ne _ p n, d) (grind arith);
  no_luma = λ n d l. rw (pixel_eq-ne _ p n, d, l) (grind arith);
  no_rgb = λ n d l r. rw (pixel_eq-ne _ p n, d, l, ne_eqb p.a (previous past).a r) (omega arith);
}

-- what a fresh pixel costs
pub cost_fresh : (shortest : Past → RgbaPixel → ℕ) (past : Past) (p : RgbaPixel) → p ≢ previous past → cost shortest past p ≡ shortest past p
unfolding cost
cost_fresh shortest past p n = cond-false (pixel_eq p (previous past)) _ _ (pixel_eq-ne p (previous past) n)

-- what a repeat costs
pub cost_repeat : (shortest : Past → RgbaPixel → ℕ) (past : Past) (p : RgbaPixel) → p ≡ previous past
    → cost shortest past p ≡ cond (eqb (trailing_repeats past % 62) 0) 1 0
unfolding cost
cost_repeat shortest past p e = cond-true (pixel_eq p (previous past)) _ _ (pixel_eq-from p (previous past) e)

-- a repeat is one more
repeats_more : (past : Past) (p : RgbaPixel) → p ≡ previous past → trailing_repeats (p ∷ past) ≡ suc (trailing_repeats past)
repeats_more past p e = cond-true (pixel_eq p (previous past)) _ _ (pixel_eq-from p (previous past) e)

-- after a fresh pixel there are none
pub repeats_fresh : (past : Past) (p : RgbaPixel) → p ≢ previous past → trailing_repeats (p ∷ past) ≡ 0
repeats_fresh past p n = cond-false (pixel_eq p (previous past)) _ _ (pixel_eq-ne p (previous past) n)

-- the repeats of a run
pub repeats_run : (past : Past) (n : ℕ) → trailing_repeats (replicate n (previous past) ++ past) ≡ n + trailing_repeats past
repeats_run past zero = omega arith
repeats_run past (suc n) =
    omega (arith, repeats_more (replicate n (previous past) ++ past) (previous past) (sym (previous_repeats n past)), repeats_run past n)

-- one repeat more costs a byte if it begins a run
group_more : (k : ℕ) → cond (eqb (k % 62) 0) 1 0 + (k + 61) / 62 ≡ (suc k + 61) / 62
group_more k = grind arith

-- what a run costs: a byte for each 62 of the group, rounded up
pub cost_run : (shortest : Past → RgbaPixel → ℕ) (past : Past) (n : ℕ)
    → total_cost shortest (replicate n (previous past) ++ past) + (trailing_repeats past + 61) / 62
    ≡ total_cost shortest past + (n + trailing_repeats past + 61) / 62
cost_run shortest past zero = omega arith
cost_run shortest past (suc n) =
    let before = replicate n (previous past) ++ past in
    let h = cost_run shortest past n in
    let c = cost_repeat shortest before (previous past) (sym (previous_repeats n past)) in
    let r = repeats_run past n in
    let g = group_more (n + trailing_repeats past) in
    let c2 : cost shortest before (previous past) ≡ cond (eqb ((n + trailing_repeats past) % 62) 0) 1 0 = rw r at c in
    omega arith
