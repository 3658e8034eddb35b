-- The shortest chunk list of an image, in which any index position may be named.
use Rattle.std.specs.Prelude.{◌≡◌, ◌≢◌, ℕ, Bool, not, ◌==◌, ◌&&◌, if◌then◌else◌, List, [], ◌∷◌, reverse, Option, is_some, MatchOption}
use Rattle.std.specs.List.{find, list_any, range_with_len}
use Rattle.qoi.specs.Qoi.{Chunk, Place, RgbaPixel, Past, pixel_eq, blank, positions, seen, hash}
use Rattle.qoi.specs.Written.{IsFirst}
use Rattle.qoi.specs.Shortest.{least, total_cost}

-- the first pixel, and each that differs from the pixel before it
abbrev pub first_and_fresh : Past → Past
first_and_fresh [] = []
first_and_fresh (p ∷ []) = p ∷ []
first_and_fresh (p ∷ q ∷ past) = if pixel_eq p q then first_and_fresh (q ∷ past) else p ∷ first_and_fresh (q ∷ past)

-- no pixel was put at the index position, so that it holds transparent black
abbrev pub is_unseen : Past → ℕ → Bool
is_unseen past i = not (list_any (λ p. hash p == i) past)

-- the least index position where no pixel was put, if there is one
unfoldable pub least_unseen : Past → Option ℕ
least_unseen past = find (is_unseen past) (range_with_len 0 positions)

-- How a fresh pixel is given: by its index position if it is seen there; else transparent black by
-- the least position where no pixel was put, if there is one; else by the first chunk that spells
-- it out.
pub record IsTightChoice (past : Past) (p : RgbaPixel) (c : Chunk) : Type 0 where
  pub place : seen past (hash p) ≡ p → c ≡ Place (hash p)
  pub unseen : seen past (hash p) ≢ p → p ≡ blank → MatchOption (least_unseen past) (IsFirst past p c) (λ i. c ≡ Place i)
  pub spelled : seen past (hash p) ≢ p → p ≢ blank → IsFirst past p c

-- how many bytes the shortest chunk has that gives the fresh pixel p, if any index position may be
-- named
unfoldable pub least0 : Past → RgbaPixel → ℕ
least0 past p = if pixel_eq p blank && is_some (least_unseen past) then 1 else least past p

-- what the pixels of an image cost then
abbrev pub floor0 : List RgbaPixel → ℕ
floor0 image = total_cost least0 (reverse image)
