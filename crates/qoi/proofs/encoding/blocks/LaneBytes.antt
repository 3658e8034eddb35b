-- The bytes of one lane, and of lanes one after the other.
use Rattle.std.proofs.Common.{◌≡◌, ℕ, suc, ◌+◌, ◌%◌, ◌<◌, ◌≤◌, Bool, true, false, List, [], ◌∷◌, ◌++◌, take, bit_and, refl, ap, ◌∙◌, arith}
use Rattle.std.specs.Prelude.{max}
use Rattle.std.proofs.lemmas.Nat.{and_mask, and_comm, and_le_l}
use Rattle.qoi.specs.Qoi.{RgbaPixel, IsPixel}
use Rattle.qoi.proofs.format.SamePixels.{pixel_eq-true, hash_below}
use Rattle.qoi.specs.inner.block.Lanes.{Lane, as_diff, step_of, fits_diff, first_of, second_of, size_of, State, is_rep, next_by}
use Rattle.qoi.proofs.encoding.coder.Spelled.{from_small, diff_small}
use Rattle.qoi.specs.WrittenList.{first_chunk}

-- a lane's chunk of s bytes, of which f is the first
abbrev pub chunk_of : Lane → ℕ → ℕ → List ℕ
chunk_of l f s = take s (f ∷ second_of l ∷ l.px.g ∷ l.px.b ∷ l.px.a ∷ [])

-- the chunks of these lanes, whose first bytes and sizes are given, one after the other
abbrev pub chunks_of : List Lane → List ℕ → List ℕ → List ℕ
chunks_of [] fs ss = []
chunks_of (l ∷ ls) [] ss = []
chunks_of (l ∷ ls) (f ∷ fs) [] = []
chunks_of (l ∷ ls) (f ∷ fs) (s ∷ ss) = chunk_of l f s ++ chunks_of ls fs ss

-- a repeat's chunk, if it were spelled out, has one byte, which is no run's
module _ (l : Lane) (i : IsPixel l.px) (e : is_rep l ≡ true) where
  -- the channels stay
  same : l.px ≡ l.before
  same = pixel_eq-true l.px l.before e

  -- a Diff gives it
  pub repeat_fits : fits_diff l ≡ true
  repeat_fits =
      let r = ap (λ (p : RgbaPixel). p.r) same in
      let g = ap (λ (p : RgbaPixel). p.g) same in
      let b = ap (λ (p : RgbaPixel). p.b) same in
      let a = ap (λ (p : RgbaPixel). p.a) same in
      from_small (as_diff l).r (as_diff l).g (as_diff l).b 4 4 4 (step_of l).a (omega (arith, i.r, r)) (omega (arith, i.g, g)) (omega (arith, i.b, b)) (omega (arith, i.a, a))

  -- it has one byte, which is below those of runs
  pub repeat_byte : (size_of l ≡ 1) × (first_of l < 128)
  unfolding first_chunk
  repeat_byte = go l.stands refl
    where
      go : (b : Bool) → l.stands ≡ b → (size_of l ≡ 1) × (first_of l < 128)
      go true e = rw e (refl, omega (arith, hash_below l.px))
      go false e = rw (e, repeat_fits) (refl, omega (arith, diff_small (as_diff l) repeat_fits))

-- the byte of a repeat
pub run_byte : (f n : ℕ) → f < 128 → 0 < n → n < 62 → max f (bit_and 255 ((n + 191) % 256)) ≡ n + 191
run_byte f n l some few =
    let e : bit_and 255 ((n + 191) % 256) ≡ n + 191 = and_comm 255 ((n + 191) % 256) ∙ and_mask ((n + 191) % 256) 8 ∙ omega arith in
    omega arith

-- a lane that is no repeat keeps its first byte
pub none_and : (f x : ℕ) → max f (bit_and 0 x) ≡ f
none_and f x = omega (arith, and_le_l 0 x)

-- a lane adds at most one repeat
pub carry_few : (b m : Bool) (s : State) (p : RgbaPixel) → (next_by b m s p).carry ≤ suc s.carry
carry_few b m s p = grind arith
