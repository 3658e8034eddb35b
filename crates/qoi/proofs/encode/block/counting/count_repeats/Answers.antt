-- From the running maximum to the counts.
use Rattle.std.proofs.Common.{◌≡◌, ℕ, ◌+◌, ◌-◌, ◌<◌, Bool, true, false, List, length, map, replicate, slice_index, get_or, if◌then◌else◌, bit_and, sym, ap, ◌∙◌, arith}
use Rattle.std.specs.Prelude.{max}
use Rattle.std.specs.List.{range_with_len}
use Rattle.std.proofs.lemmas.Nat.{and_mask, and_le_r}
use Rattle.std.proofs.lemmas.List.{get_or-map, length-map}
use Rattle.std.proofs.lemmas.List.FromFn.{get_or-range_with_len}
use Rattle.std.proofs.lemmas.Simd.{get_or-zip2, length-zip2, get_or-replicate}
use lib.Lanes.{zip2}
use Rattle.qoi.specs.inner.block.Lanes.{mask}
use Rattle.qoi.specs.inner.block.Vectors.{IsMost, counts}
use Rattle.qoi.proofs.encoding.lanes.Lanewise.{not_8}
use Rattle.qoi.proofs.encoding.lanes.RunningMost.{AreStamps, less, counted}
use Rattle.qoi.proofs.encode.block.counting.count_repeats.Goals as goal

-- 64 and the numbers of the lanes
abbrev numbers : List ℕ
numbers = range_with_len 64 16

-- a lane is stamped if it is no repeat
kept : (k : ℕ) (b : Bool) → k < 16 → bit_and (64 + k) (255 - mask b) ≡ (if b then 0 else 64 + k)
kept k true lt = omega (arith, and_le_r (64 + k) 0)
kept k false lt = and_mask (64 + k) 8 ∙ omega arith

module _ (rs : List Bool) (reps : List ℕ) (lr : length rs ≡ 16) (is : reps ≡ map mask rs) where
  -- there are sixteen
  long : length reps ≡ 16
  long = ap length is ∙ length-map rs mask ∙ lr

  -- the lanes that are stamped
  pub stamps_are : AreStamps rs (zip2 bit_and numbers (map not_8 reps))
  stamps_are = (
    length-zip2 bit_and numbers (map not_8 reps) (sym (length-map reps not_8 ∙ long)),
    λ k lt. get_or-zip2 bit_and numbers (map not_8 reps) k 0 0 0 lt (omega (arith, length-map reps not_8, long))
        ∙ (λ i. bit_and (get_or-range_with_len 64 16 k 0 lt i) (get_or-map not_8 reps k 0 0 (omega (arith, long)) i))
        ∙ ap (λ z. bit_and (64 + k) (not_8 z)) (ap (λ xs. slice_index xs k) is ∙ get_or-map mask rs k true 0 (omega arith))
        ∙ kept k (get_or rs k true) lt,
  )

-- the repeats that are counted
counted_lanes : (rs : List Bool) (c : ℕ) (xs ms tops : List ℕ) → c < 62 → length rs ≡ 16 → AreStamps rs xs → ((k : ℕ) → k < 16 → IsMost xs 16 k (slice_index ms k)) → length ms ≡ 16
    → tops ≡ zip2 max ms (replicate 16 (63 - c)) → zip2 less numbers tops ≡ counts c rs
counted_lanes rs c xs ms tops few lr stamped most lm is =
    let lt16 : length tops ≡ 16 = ap length is ∙ length-zip2 max ms (replicate 16 (63 - c)) lm ∙ lm in
    counted rs c xs ms (zip2 less numbers tops) few stamped most
    (λ k lt. get_or-zip2 less numbers tops k 0 0 0 lt (omega arith)
    ∙ (λ i. less (get_or-range_with_len 64 16 k 0 lt i) (slice_index (is i) k))
    ∙ ap (less (64 + k)) (get_or-zip2 max ms (replicate 16 (63 - c)) k 0 0 0 (omega arith) lt
    ∙ ap (max (slice_index ms k)) (get_or-replicate 16 k (63 - c) 0 lt)))
    lr (length-zip2 less numbers tops (sym lt16))

pub returns : goal.returns
returns c = λ rs lr is. counted_lanes rs c.args.carried _ c.running_most.result c.greater-most.result c.requires lr
    (stamps_are rs c.args.rep lr is) c.running_most.ensures.most c.running_most.ensures.long c.greater-most.ensures
