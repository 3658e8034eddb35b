-- One fresh pixel: the number that is computed for it has the bytes of its chunk.
use Rattle.std.proofs.Common.{◌≡◌, ℕ, ◌+◌, ◌*◌, ◌/◌, ◌%◌, ◌<◌, Bool, true, false, not, nat_lt, ◌&&◌, ◌==◌, inl, inr, [], ◌∷◌, ◌++◌, take, refl, sym, ap, ◌∙◌, arith, eqb-true, eq-eqb}
use Rattle.std.proofs.Math.Bool.{and_assoc}
use Rattle.std.proofs.lemmas.Bool.{true≢false, and_from, and_left, and_right}
use lib.Lanes.{digits_l}
use Rattle.qoi.specs.Qoi.{Chunk, RgbaPixel, IsPixel, bytes_of}
use Rattle.qoi.specs.Raw.{IsChannels}
use Rattle.qoi.specs.inner.Coder.{SpellsOut}
use Rattle.qoi.specs.WrittenList.{steps, diff_steps, luma_steps, fits_in_diff, fits_in_luma, spelled, first_chunk}
use Rattle.qoi.proofs.encoding.coder.Spelled.{diff_small, luma_small, first_after}
use Rattle.qoi.specs.inner.Packed.{word}

-- the test of alphas fails: in three channels or in four, alpha's step is 0
pub alpha_kept : (n a b : ℕ) (q p : RgbaPixel) → IsChannels n → (n ≡ 3 → p.a ≡ q.a) → IsPixel q → a ≡ p.a → b ≡ q.a → ((n == 4) && not (a == b)) ≡ false
    → (steps q p).a ≡ 0
alpha_kept n a b q p (inl three) same iq is was t = omega (arith, same three, iq.a)
alpha_kept n a b q p (inr four) same iq is was t = go (a == b) refl
  where
    go : (e : Bool) → (a == b) ≡ e → (steps q p).a ≡ 0
    go true e = omega (arith, is, was, iq.a, eqb-true a b e)
    go false e = absurd (true≢false (sym (and_from (n == 4) (not (a == b)) (eq-eqb n 4 four) (ap not e)) ∙ t))

-- it passes: it isn't 0
pub alpha_changes : (n a b : ℕ) (q p : RgbaPixel) → IsPixel q → IsPixel p → a ≡ p.a → b ≡ q.a → ((n == 4) && not (a == b)) ≡ true → ((steps q p).a == 0) ≡ false
alpha_changes n a b q p iq ip is was t = go ((steps q p).a == 0) refl
  where
    go : (e : Bool) → ((steps q p).a == 0) ≡ e → ((steps q p).a == 0) ≡ false
    go true e =
        let same : a ≡ b = omega (arith, is, was, iq.a, ip.a, eqb-true (steps q p).a 0 e) in
        absurd (true≢false (sym t ∙ and_right (n == 4) (not (a == b)) (ap not (eq-eqb a b same))))
    go false e = e

-- the bytes of a number that begins with a pixel's first three
pub after_pixel : (n first : ℕ) (p : RgbaPixel) → IsPixel p → first < 256 → n ≡ word p % 16777216 * 256 + first
    → digits_l 256 4 n ≡ first ∷ p.r ∷ p.g ∷ p.b ∷ []
after_pixel n first p ip l e =
    let r = ip.r in let g = ip.g in let b = ip.b in let a = ip.a in
    let low : word p % 16777216 ≡ p.r + p.g * 256 + p.b * 65536 = omega arith in
    let one : n % 256 ≡ first = omega arith in
    let two : n / 256 % 256 ≡ p.r = omega arith in
    let three : n / 256 / 256 % 256 ≡ p.g = omega arith in
    let four : n / 256 / 256 / 256 % 256 ≡ p.b = omega arith in
    λ i. one i ∷ two i ∷ three i ∷ four i ∷ []

-- three tests of the same steps
same_tests : (s t : RgbaPixel) (l m n : ℕ) (b : Bool) → s ≡ t → ((nat_lt s.r l && nat_lt s.g m) && nat_lt s.b n) ≡ b → (nat_lt t.r l && (nat_lt t.g m && nat_lt t.b n)) ≡ b
same_tests s t l m n b is e = sym (ap (λ x. nat_lt x.r l && (nat_lt x.g m && nat_lt x.b n)) is) ∙ sym (and_assoc (nat_lt s.r l) (nat_lt s.g m) (nat_lt s.b n)) ∙ e

module _ (q p : RgbaPixel) (iq : IsPixel q) (ip : IsPixel p) where
  -- the steps, as a Diff has them
  abbrev small : RgbaPixel
  small = diff_steps (steps q p)

  -- as a Luma has them
  abbrev wide : RgbaPixel
  wide = luma_steps (steps q p)

  -- a number with the bytes of the chunk that the tests choose spells out the pixel
  spells : (n size : ℕ) (d m k : Bool) → fits_in_diff small ≡ d → fits_in_luma wide ≡ m → ((steps q p).a == 0) ≡ k
      → take size (digits_l 256 4 n ++ p.a ∷ []) ≡ bytes_of (spelled d m k small wide p) → (c : Chunk) × SpellsOut q p n size c
  unfolding first_chunk
  spells n size d m k ed em ek e =
      let is = first_after q p iq ip in
      (first_chunk q p, record { chunk = is.0; bytes = e ∙ sym (λ i. bytes_of (spelled (ed i) (em i) (ek i) small wide p)); first = is.1 })

  -- alpha changes
  pub spells_rgba : (n : ℕ) → ((steps q p).a == 0) ≡ false → n ≡ word p % 16777216 * 256 + 255 → (c : Chunk) × SpellsOut q p n 5 c
  spells_rgba n k e = spells n 5 false false false (and_right _ _ k) (and_right _ _ k) k (ap (λ bytes. bytes ++ p.a ∷ []) (after_pixel n 255 p ip (omega arith) e))

  -- the steps fit a Diff
  pub spells_diff : (r s : RgbaPixel) (n : ℕ) → r ≡ steps q p → s ≡ diff_steps r → (steps q p).a ≡ 0
      → ((nat_lt s.r 4 && nat_lt s.g 4) && nat_lt s.b 4) ≡ true → n ≡ 64 + s.r * 16 + (s.g * 4 + s.b) → (c : Chunk) × SpellsOut q p n 1 c
  spells_diff r s n r_is s_is alpha t e =
      let is = s_is ∙ ap diff_steps r_is in
      let k = eq-eqb (steps q p).a 0 alpha in
      let fits = and_from _ _ (same_tests s small 4 4 4 true is t) k in
      let first : n % 256 ≡ 64 + small.r * 16 + small.g * 4 + small.b = omega (arith, diff_small small fits, e ∙ ap (λ (x : RgbaPixel). 64 + x.r * 16 + (x.g * 4 + x.b)) is) in
      spells n 1 true _ true fits refl k (λ i. first i ∷ [])

  -- they fit a Luma, but no Diff
  pub spells_luma : (r s u : RgbaPixel) (n : ℕ) → r ≡ steps q p → s ≡ diff_steps r → u ≡ luma_steps r → (steps q p).a ≡ 0
      → ((nat_lt s.r 4 && nat_lt s.g 4) && nat_lt s.b 4) ≡ false → ((nat_lt u.r 16 && nat_lt u.g 64) && nat_lt u.b 16) ≡ true
      → n ≡ 128 + u.g + (u.r * 16 + u.b) * 256 → (c : Chunk) × SpellsOut q p n 2 c
  spells_luma r s u n r_is s_is u_is alpha st t e =
      let k = eq-eqb (steps q p).a 0 alpha in
      let same = u_is ∙ ap luma_steps r_is in
      let fits = and_from _ _ (same_tests u wide 16 64 16 true same t) k in
      let f = luma_small wide fits in
      let is = e ∙ ap (λ (x : RgbaPixel). 128 + x.g + (x.r * 16 + x.b) * 256) same in
      let first : n % 256 ≡ 128 + wide.g = omega (arith, f, is) in
      let second : n / 256 % 256 ≡ wide.r * 16 + wide.b = omega (arith, f, is) in
      spells n 2 false true true (and_left _ _ (same_tests s small 4 4 4 false (s_is ∙ ap diff_steps r_is) st)) fits k (λ i. first i ∷ second i ∷ [])

  -- they fit neither, and alpha stays
  pub spells_rgb : (r s u : RgbaPixel) (n : ℕ) → r ≡ steps q p → s ≡ diff_steps r → u ≡ luma_steps r → (steps q p).a ≡ 0
      → ((nat_lt s.r 4 && nat_lt s.g 4) && nat_lt s.b 4) ≡ false → ((nat_lt u.r 16 && nat_lt u.g 64) && nat_lt u.b 16) ≡ false
      → n ≡ word p % 16777216 * 256 + 254 → (c : Chunk) × SpellsOut q p n 4 c
  spells_rgb r s u n r_is s_is u_is alpha st ut e =
      spells n 4 false false true (and_left _ _ (same_tests s small 4 4 4 false (s_is ∙ ap diff_steps r_is) st))
      (and_left _ _ (same_tests u wide 16 64 16 false (u_is ∙ ap luma_steps r_is) ut)) (eq-eqb (steps q p).a 0 alpha)
      (ap (λ bytes. take 4 (bytes ++ p.a ∷ [])) (after_pixel n 254 p ip (omega arith) e))
