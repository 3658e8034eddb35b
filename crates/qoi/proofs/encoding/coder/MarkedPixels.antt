-- Fresh pixels, as bits: the lowest bit that is set is the first one.
use Rattle.std.proofs.Common.{◌≡◌, ◌≢◌, ℕ, zero, suc, ◌+◌, ◌-◌, ◌*◌, ◌/◌, ◌%◌, ◌^◌, ◌<◌, ◌≤◌, Bool, true, false, not, cond, if◌then◌else◌, List, [], ◌∷◌, ◌++◌, length, map, take, drop, replicate, Option, None, Some, refl, sym, ap, ◌∙◌, arith, take-append-drop}
use Rattle.std.proofs.lemmas.List.{length-take-le, take-take, drop-take}
use Rattle.std.proofs.lemmas.Option.{same_Some}
use Rattle.std.proofs.Math.Nat.{pow-suc, mul_comm, div-div-eq-div-mul}
use Rattle.std.proofs.lemmas.Bool.{true≢false}
use Rattle.std.specs.List.{slice_get}
use lib.Count.{count_trailing_zeros, under}
use lib.Lanes.{mask_l}
use Rattle.qoi.specs.Qoi.{RgbaPixel, Past, pixel_eq}
use Rattle.qoi.specs.inner.block.Lanes.{fresh_marks, lanes_of, is_rep}
use Rattle.qoi.proofs.format.LaneRuns.{even_under, odd_under}
use Rattle.qoi.proofs.format.SamePixels.{pixel_eq-true, pixel_eq-from}

-- a bit of a lane, by whether it repeats
bit_of : (b : Bool) (m k : ℕ) → m ≡ k → cond (not b) 1 0 + 2 * m ≡ (if b then 0 else 1) + 2 * k
bit_of true m k e = omega (arith, e)
bit_of false m k e = omega (arith, e)

-- the bits of the lanes that don't repeat
pub marks_of_lanes : (held : Past) (q : RgbaPixel) (ps : List RgbaPixel) → mask_l (map not (map is_rep (lanes_of held q ps))) ≡ fresh_marks q ps
marks_of_lanes held q [] = refl
marks_of_lanes held q (p ∷ ps) = bit_of (pixel_eq p q) _ _ (marks_of_lanes (p ∷ held) p ps)

-- if no bit is set, the first pixel repeats and no later bit is set
pub none_first : (b : Bool) (m : ℕ) → (if b then 0 else 1) + 2 * m ≡ 0 → (b ≡ true) × (m ≡ 0)
none_first true m e = (refl, omega (arith, e))
none_first false m e = absurd (omega (arith, e))

-- if no bit is set, all repeat
pub none_marked : (q : RgbaPixel) (ps : List RgbaPixel) → fresh_marks q ps ≡ 0 → ps ≡ replicate (length ps) q
none_marked q [] none = refl
none_marked q (p ∷ ps) none =
    let first = none_first (pixel_eq p q) (fresh_marks p ps) none in
    ap (λ z. p ∷ z) (none_marked p ps first.1) ∙ ap (λ z. z ∷ replicate (length ps) z) (pixel_eq-true p q first.0)

-- The first fresh one of several pixels stands after n repeats, and these are the bits of those after it.
pub record IsMarked (q : RgbaPixel) (ps : List RgbaPixel) (bits n : ℕ) : Type 0 where
  pub p : RgbaPixel
  pub inside : n < length ps
  pub repeats : take n ps ≡ replicate n q
  pub is : slice_get ps n ≡ Some p
  pub other : p ≢ q
  pub later : bits / 2 ^ n / 2 ≡ fresh_marks p (drop (suc n) ps)

-- a bit further
further : (n m a : ℕ) → n ≡ 2 * m → n / 2 ^ suc a / 2 ≡ m / 2 ^ a / 2
further n m a e =
    (λ i. n / (pow-suc 2 a ∙ mul_comm (2 ^ a) 2) i / 2) ∙ ap (λ z. z / 2) (sym (div-div-eq-div-mul n 2 (2 ^ a)))
    ∙ ap (λ z. z / 2 ^ a / 2) (let half : n / 2 ≡ m = omega (arith, e) in half)

marked_step : (k : ℕ) (q p : RgbaPixel) (ps : List RgbaPixel) (bits : ℕ) (b : Bool) → pixel_eq p q ≡ b
    → bits ≡ (if b then 0 else 1) + 2 * fresh_marks p ps → 0 < bits
    → (bits / 2 ≡ fresh_marks p ps → 0 < bits / 2 → IsMarked p ps (bits / 2) (count_trailing_zeros k (bits / 2)))
    → IsMarked q (p ∷ ps) bits (under (bits % 2) (count_trailing_zeros k (bits / 2)))
marked_step k q p ps bits true same e some more =
    let p_is = pixel_eq-true p q same in
    let next = more (omega (arith, e)) (omega (arith, e, some)) in
    let a = count_trailing_zeros k (bits / 2) in
    let at : under (bits % 2) a ≡ suc a = even_under bits a (omega (arith, e)) in
    rw at (record {
      p = next.p;
      inside = omega (arith, next.inside);
      repeats = ap (λ z. p ∷ z) next.repeats ∙ ap (λ z. z ∷ replicate a z) p_is;
      is = next.is;
      other = λ s. next.other (s ∙ sym p_is);
      later = further bits (bits / 2) a (omega (arith, e)) ∙ next.later;
    })
marked_step k q p ps bits false differs e some more =
    let at : under (bits % 2) (count_trailing_zeros k (bits / 2)) ≡ 0 = odd_under bits (count_trailing_zeros k (bits / 2)) (omega (arith, e)) in
    rw at (record {
      p = p;
      inside = omega arith;
      repeats = refl;
      is = refl;
      other = λ s. true≢false (sym (pixel_eq-from p q s) ∙ differs);
      later = omega (arith, e);
    })

pub first_marked : (k : ℕ) (q : RgbaPixel) (ps : List RgbaPixel) (bits : ℕ) → length ps ≤ k → bits ≡ fresh_marks q ps → 0 < bits
    → IsMarked q ps bits (count_trailing_zeros k bits)
unfolding count_trailing_zeros
first_marked k q [] bits few is some = absurd (omega (arith, is, some))
first_marked zero q (p ∷ ps) bits few is some = absurd (omega (arith, few))
first_marked (suc k) q (p ∷ ps) bits few is some =
    marked_step k q p ps bits (pixel_eq p q) refl is some (first_marked k p ps (bits / 2) (omega (arith, few)))

-- what stands after n pixels
pub get_drop : (n : ℕ) (ps : List RgbaPixel) → slice_get (drop n ps) 0 ≡ slice_get ps n
get_drop (suc n) (p ∷ ps) = get_drop n ps
get_drop n ps = refl

-- what stands among the first m
get_take : (n m : ℕ) (ps : List RgbaPixel) → n < m → slice_get (take m ps) n ≡ slice_get ps n
get_take n zero ps l = absurd (omega (arith, l))
get_take n (suc m) [] l = refl
get_take zero (suc m) (p ∷ ps) l = refl
get_take (suc n) (suc m) (p ∷ ps) l = get_take n m ps (omega (arith, l))

-- the first of several copies
first_copy : (n : ℕ) (q : RgbaPixel) → 0 < n → slice_get (replicate n q) 0 ≡ Some q
first_copy zero q l = absurd (omega (arith, l))
first_copy (suc n) q l = refl

-- n repeats stand at the front of pixels, and then a fresh one; and these are the bits of the rest of
-- the first `lanes`.
pub record MarksGroup (q : RgbaPixel) (ps : List RgbaPixel) (lanes bits n : ℕ) : Type 0 where
  pub inside : n < lanes
  pub repeats : take n ps ≡ replicate n q
  pub other : slice_get ps n ≢ Some q
  pub first : 0 < n → slice_get ps 0 ≡ Some q
  pub later : (p : RgbaPixel) → slice_get ps n ≡ Some p → bits / 2 ^ n / 2 ≡ fresh_marks p (take (lanes - (n + 1)) (drop (n + 1) ps))

pub marks_group : (q : RgbaPixel) (ps : List RgbaPixel) (lanes bits : ℕ) → lanes ≤ length ps → lanes ≤ 16 → bits ≡ fresh_marks q (take lanes ps) → 0 < bits
    → MarksGroup q ps lanes bits (count_trailing_zeros 64 bits)
marks_group q ps lanes bits enough few is some =
    let n = count_trailing_zeros 64 bits in
    let long : length (take lanes ps) ≡ lanes = length-take-le lanes ps enough in
    let m = first_marked 64 q (take lanes ps) bits (omega (arith, long, few)) is some in
    let inside : n < lanes = omega (arith, m.inside, long) in
    let repeats : take n ps ≡ replicate n q = sym (take-take n lanes ps (omega (arith, inside))) ∙ m.repeats in
    let at : slice_get ps n ≡ Some m.p = sym (get_take n lanes ps inside) ∙ m.is in
    let left : lanes ≡ suc n + (lanes - (n + 1)) = omega (arith, inside) in
    let next : suc n ≡ n + 1 = omega arith in
    record {
      inside = inside;
      repeats = repeats;
      other = λ e. m.other (same_Some _ _ (sym at ∙ e));
      first = λ l. sym (get_take 0 n ps l) ∙ ap (λ z. slice_get z 0) repeats ∙ first_copy n q l;
      later = λ p e. m.later ∙ ap (λ z. fresh_marks z (drop (suc n) (take lanes ps))) (same_Some _ _ (sym at ∙ e))
          ∙ ap (fresh_marks p) (ap (λ l. drop (suc n) (take l ps)) left ∙ drop-take (suc n) (lanes - (n + 1)) ps ∙ ap (λ k. take (lanes - (n + 1)) (drop k ps)) next);
    }

-- if no bit is set, the first `lanes` repeat
pub none_group : (q : RgbaPixel) (ps : List RgbaPixel) (lanes : ℕ) → lanes ≤ length ps → 0 ≡ fresh_marks q (take lanes ps)
    → ps ≡ replicate lanes q ++ drop lanes ps
none_group q ps lanes enough is =
    sym (take-append-drop lanes ps) ∙ ap (λ z. z ++ drop lanes ps) (none_marked q (take lanes ps) (sym is) ∙ ap (λ k. replicate k q) (length-take-le lanes ps enough))

-- the lowest bit by whether the first one repeats
even_by : (b : Bool) (m : ℕ) → b ≡ true → ((if b then 0 else 1) + 2 * m) % 2 ≡ 0
even_by true m e = omega arith
even_by false m e = absurd (true≢false (sym e))

-- if the first one repeats, the lowest bit isn't set
pub repeat_even : (q : RgbaPixel) (k : ℕ) (ps : List RgbaPixel) → 0 < k → slice_get ps 0 ≡ Some q → fresh_marks q (take k ps) % 2 ≡ 0
repeat_even q k [] some e = (let no : ◌≡◌ {A = Option RgbaPixel} None (Some q) = e in cc)
repeat_even q zero (p ∷ ps) some e = absurd (omega (arith, some))
repeat_even q (suc k) (p ∷ ps) some e = even_by (pixel_eq p q) (fresh_marks p (take k ps)) (pixel_eq-from p q (same_Some _ _ e))
