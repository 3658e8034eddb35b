-- What is noted at an index position: how it changes, and that it is seen there too.
use Rattle.std.proofs.Common.{◌≡◌, ◌≢◌, ℕ, eqb, [], ◌∷◌, ◌==◌, if◌then◌else◌, refl, ap, arith}
use Rattle.std.proofs.lemmas.Bool.{cond-true, cond-false, eq-eqb, ne_eqb}
use Rattle.qoi.specs.Qoi.{RgbaPixel, Past, pixel_eq, start, blank, hash, previous, seen}
use Rattle.qoi.specs.Written.{fresh, noted}
use Rattle.qoi.proofs.format.SamePixels.{pixel_eq-from, pixel_eq-true, pixel_eq-ne}

-- a repeat is not fresh
pub fresh_repeat : (past : Past) (p : RgbaPixel) → p ≡ previous past → fresh (p ∷ past) ≡ fresh past
fresh_repeat past p e = cond-true (pixel_eq p (previous past)) _ _ (pixel_eq-from p (previous past) e)

-- any other pixel is
pub fresh_more : (past : Past) (p : RgbaPixel) → p ≢ previous past → fresh (p ∷ past) ≡ p ∷ fresh past
fresh_more past p n = cond-false (pixel_eq p (previous past)) _ _ (pixel_eq-ne p (previous past) n)

-- a repeat is not noted
pub noted_repeat : (past : Past) (p : RgbaPixel) (i : ℕ) → p ≡ previous past → noted (p ∷ past) i ≡ noted past i
noted_repeat past p i e = ap (λ x. seen x i) (fresh_repeat past p e)

-- a fresh pixel is noted at its index position
pub noted_fresh : (past : Past) (p : RgbaPixel) (i : ℕ) → p ≢ previous past → noted (p ∷ past) i ≡ (if hash p == i then p else noted past i)
noted_fresh past p i n = ap (λ x. seen x i) (fresh_more past p n)

-- a pixel is seen at its index position
pub seen_same : (past : Past) (p : RgbaPixel) (i : ℕ) → hash p ≡ i → seen (p ∷ past) i ≡ p
seen_same past p i h = cond-true (eqb (hash p) i) _ _ (eq-eqb (hash p) i h)

-- and changes no other
pub seen_other : (past : Past) (p : RgbaPixel) (i : ℕ) → hash p ≢ i → seen (p ∷ past) i ≡ seen past i
seen_other past p i h = cond-false (eqb (hash p) i) _ _ (ne_eqb (hash p) i h)

-- the position of opaque black
hash_start : hash start ≡ 53
unfolding hash start
hash_start = refl

-- the position of transparent black
pub hash_blank : hash blank ≡ 0
unfolding hash blank
hash_blank = refl

-- what is noted at the position of a pixel, if it is that pixel, is seen there: after one pixel
noted_first : (q p : RgbaPixel) → noted (q ∷ []) (hash p) ≡ p → seen (q ∷ []) (hash p) ≡ p
noted_first q p e = grind (arith, e, hash_start, hash_blank, pixel_eq-true q start)

-- after one more
noted_next : (q r p : RgbaPixel) (past : Past) → (noted (r ∷ past) (hash p) ≡ p → seen (r ∷ past) (hash p) ≡ p) → noted (q ∷ r ∷ past) (hash p) ≡ p
    → seen (q ∷ r ∷ past) (hash p) ≡ p
noted_next q r p past before e = grind (arith, before, e, pixel_eq-true q r)

-- after any
pub noted_seen : (past : Past) (p : RgbaPixel) → noted past (hash p) ≡ p → seen past (hash p) ≡ p
noted_seen [] p e = e
noted_seen (q ∷ []) p e = noted_first q p e
noted_seen (q ∷ r ∷ past) p e = noted_next q r p past (noted_seen (r ∷ past) p) e
