-- The entries of the table of index positions, and the first that is transparent black.
use Rattle.std.proofs.Common.{◌≡◌, ◌≢◌, ℕ, suc, ◌+◌, ◌-◌, ◌<◌, ◌≤◌, cond, eqb, List, ◌∷◌, [], length, get_or, slice_set, replicate, Option, None, Some, refl, sym, ap, ◌∙◌, arith}
use Rattle.std.specs.List.{find, range_with_len}
use Rattle.std.proofs.lemmas.List.{length-set, length-replicate, get_or-replicate}
use Rattle.std.proofs.lemmas.Bool.{cond-true, cond-false}
use Rattle.std.proofs.lemmas.Grind.{common_steps}
use Rattle.std.proofs.lemmas.Option.{slice_get-get_or, same_Some}
use Rattle.qoi.specs.Qoi.{RgbaPixel, Past, pixel_eq, hash, blank, seen}
use Rattle.qoi.specs.inner.Table.{Holds, first_blank}
use Rattle.qoi.proofs.format.SamePixels.{hash_below, pixel_eq-from, pixel_eq-ne}

-- an entry is what the table holds there
pub held_at : (entries : List RgbaPixel) (past : Past) (i : ℕ) → length entries ≡ 64 → i < 64 → Holds entries past → get_or entries i blank ≡ seen past i
held_at entries past i size l holds = same_Some _ _ (sym (slice_get-get_or entries i blank (omega arith)) ∙ holds i l)

-- transparent black everywhere holds nothing
pub holds_none : Holds (replicate 64 blank) []
holds_none i l = slice_get-get_or (replicate 64 blank) i blank (omega (arith, length-replicate 64 blank)) ∙ ap Some (get_or-replicate 64 i blank blank l)

-- the entries after a write at a pixel's index position
held_after : (entries : List RgbaPixel) (p : RgbaPixel) (i : ℕ) → length entries ≡ 64
    → get_or (slice_set entries (hash p) p) i blank ≡ cond (eqb (hash p) i) p (get_or entries i blank)
held_after entries p i size = grind (arith, common_steps, hash_below p, size)

-- a pixel that is put there is held
pub holds_put : (entries : List RgbaPixel) (p : RgbaPixel) (past : Past) (place : ℕ) → length entries ≡ 64 → place ≡ hash p → Holds entries past
    → Holds (slice_set entries place p) (p ∷ past)
holds_put entries p past place size at holds i l = rw at (
    slice_get-get_or (slice_set entries (hash p) p) i blank (omega (arith, length-set entries (hash p) p))
    ∙ ap (λ x. Some x) (held_after entries p i size ∙ ap (cond (eqb (hash p) i) p) (held_at entries past i size l holds)))

-- with a position within the table
pub ruleset puts = (hash_below, holds_put)

-- the first index position from k on where transparent black is seen, if there is one
unfoldable pub blank_from : Past → ℕ → Option ℕ
blank_from past k = find (λ i. pixel_eq (seen past i) blank) (range_with_len k (64 - k))

-- from 0 on that is the first of all
pub blank_from_start : (past : Past) → first_blank past ≡ blank_from past 0
unfolding first_blank blank_from
blank_from_start past = refl

-- the next position is looked at, and then those after it
blank_from_next : (past : Past) (k : ℕ) → k < 64 → blank_from past k ≡ cond (pixel_eq (seen past k) blank) (Some k) (blank_from past (k + 1))
unfolding blank_from
blank_from_next past k l =
    let more : 64 - k ≡ suc (64 - (k + 1)) = omega arith in
    ap (λ n. find (λ i. pixel_eq (seen past i) blank) (range_with_len k n)) more

-- if transparent black is seen there, it is this one
pub blank_here : (past : Past) (k : ℕ) → k < 64 → seen past k ≡ blank → blank_from past k ≡ Some k
blank_here past k l e = blank_from_next past k l ∙ cond-true (pixel_eq (seen past k) blank) _ _ (pixel_eq-from (seen past k) blank e)

-- else it is after it
pub blank_after : (past : Past) (k : ℕ) → k < 64 → seen past k ≢ blank → blank_from past k ≡ blank_from past (k + 1)
blank_after past k l n = blank_from_next past k l ∙ cond-false (pixel_eq (seen past k) blank) _ _ (pixel_eq-ne (seen past k) blank n)

-- after the last position there is none
pub blank_nowhere : (past : Past) (k : ℕ) → 64 ≤ k → blank_from past k ≡ None
unfolding blank_from
blank_nowhere past k l =
    let none : 64 - k ≡ 0 = omega arith in
    ap (λ n. find (λ i. pixel_eq (seen past i) blank) (range_with_len k n)) none
