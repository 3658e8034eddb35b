-- What is seen, and what the tables hold, after a pixel came some times.
use Rattle.std.proofs.Common.{◌≡◌, ℕ, zero, suc, ◌<◌, Bool, true, false, List, ◌∷◌, ◌++◌, replicate, cond, eqb, eqb-true, Some, arith, refl, sym, ap, ◌∙◌}
use Rattle.qoi.specs.Qoi.{RgbaPixel, Past, previous, seen, hash}
use Rattle.qoi.specs.inner.Hashed.{HoldsSeen}
use Rattle.qoi.specs.inner.Table.{Holds}

-- what an index position holds after a pixel came some times
pub seen_copies : (n : ℕ) (p : RgbaPixel) (past : Past) (i : ℕ) → 0 < n → seen (replicate n p ++ past) i ≡ cond (eqb (hash p) i) p (seen past i)
seen_copies zero p past i h = absurd (omega arith)
seen_copies (suc zero) p past i h = refl
seen_copies (suc (suc n)) p past i h = grind (arith, seen_copies (suc n) p past i (omega arith))

-- the last of some copies is the pixel itself
pub previous_copies : (n : ℕ) (p : RgbaPixel) (past : Past) → 0 < n → previous (replicate n p ++ past) ≡ p
previous_copies zero p past h = absurd (omega arith)
previous_copies (suc n) p past h = refl

-- the table after a pixel, put once, is that after some copies of it
pub holds_copies : (table : List RgbaPixel) (p : RgbaPixel) (past : Past) (n : ℕ) → 0 < n → Holds table (p ∷ past) → Holds table (replicate n p ++ past)
holds_copies table p past n some h i l = h i l ∙ ap Some (sym (seen_copies n p past i some))

-- a pixel that stands at its index position changes nothing if it is put there
pub put_again : (p : RgbaPixel) (past : Past) → seen past (hash p) ≡ p → (i : ℕ) → seen (p ∷ past) i ≡ seen past i
put_again p past is i = go (eqb (hash p) i) refl
  where
    go : (same : Bool) → eqb (hash p) i ≡ same → cond same p (seen past i) ≡ seen past i
    go true e = sym is ∙ ap (seen past) (eqb-true (hash p) i e)
    go false e = refl

-- the decoder's numbers after a pixel, put once, are those after some copies of it
pub holds_seen_copies : (numbers : List ℕ) (p : RgbaPixel) (past : Past) (n : ℕ) → 0 < n → HoldsSeen numbers (p ∷ past)
    → HoldsSeen numbers (replicate n p ++ past)
holds_seen_copies numbers p past n some h i l = h i l ∙ sym (seen_copies n p past i some)
