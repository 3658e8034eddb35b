-- The first chunk that spells a pixel out, by the steps that an encoder computes.
use Rattle.std.proofs.Common.{◌≡◌, ◌≢◌, ⊎_elim, ℕ, ◌+◌, ◌-◌, ◌*◌, ◌/◌, ◌%◌, ◌<◌, ◌≤◌, Bool, true, false, IsTrue, ◌==◌, eqb-true, eq-eqb, refl, sym, ap, subst, ◌∙◌, ◌&&◌, nat_lt, arith, ◌∷◌, []}
use Rattle.std.proofs.lemmas.Bool.{cases_lt, true≢false}
use Rattle.qoi.specs.Qoi.{Chunk, Diff, Luma, Rgb, Rgba, RgbaPixel, IsPixel, Past, previous, IsChunk, pixel_after, after_diff, after_luma}
use Rattle.qoi.specs.Written.{rank, IsFirst}
use Rattle.qoi.specs.WrittenList.{steps, diff_steps, luma_steps, fits_in_diff, fits_in_luma, diff_of, luma_of, spelled, first_chunk}
use Rattle.qoi.proofs.format.SamePixels.{same_pixel}

-- the steps from q to p fit a Diff
abbrev pub FitsDiff : RgbaPixel → RgbaPixel → Type 0
FitsDiff q p = IsTrue (fits_in_diff (diff_steps (steps q p)))

-- they fit a Luma
abbrev pub FitsLuma : RgbaPixel → RgbaPixel → Type 0
FitsLuma q p = IsTrue (fits_in_luma (luma_steps (steps q p)))

-- what four tests say
pub three_small : (a b c m n k x : ℕ) → IsTrue ((nat_lt a m && (nat_lt b n && nat_lt c k)) && (x == 0)) → (a < m) × (b < n) × (c < k) × (x ≡ 0)
three_small a b c m n k x t = grind arith

-- and back
pub from_small : (a b c m n k x : ℕ) → a < m → b < n → c < k → x ≡ 0 → IsTrue ((nat_lt a m && (nat_lt b n && nat_lt c k)) && (x == 0))
from_small a b c m n k x la lb lc e = grind arith

-- of a Diff's steps
pub diff_small : (s : RgbaPixel) → IsTrue (fits_in_diff s) → (s.r < 4) × (s.g < 4) × (s.b < 4) × (s.a ≡ 0)
diff_small s t = three_small s.r s.g s.b 4 4 4 s.a t

-- of a Luma's
pub luma_small : (s : RgbaPixel) → IsTrue (fits_in_luma s) → (s.r < 16) × (s.g < 64) × (s.b < 16) × (s.a ≡ 0)
luma_small s t = three_small s.r s.g s.b 16 64 16 s.a t

-- the chunk that the tests choose is a chunk
spelled_chunk : (is_diff is_luma keeps : Bool) (s t p : RgbaPixel) → (is_diff ≡ true → IsTrue (fits_in_diff s)) → (is_luma ≡ true → IsTrue (fits_in_luma t)) → IsPixel p
    → IsChunk (spelled is_diff is_luma keeps s t p)
spelled_chunk true is_luma keeps s t p d l i = (omega arith, omega (arith, diff_small s (d refl)))
spelled_chunk false true keeps s t p d l i = (omega arith, omega (arith, luma_small t (l refl)), omega (arith, luma_small t (l refl)))
spelled_chunk false false true s t p d l i = (i.r, i.g, i.b)
spelled_chunk false false false s t p d l i = (i.r, i.g, i.b, i.a)

-- what is added to y for x; it wraps at 256
abbrev added : ℕ → ℕ → ℕ
added x y = (x + (256 - y)) % 256

-- a Diff's step there and back
diff_back : (x y k : ℕ) → x < 256 → y < 256 → k ≡ (added x y + 2) % 256 → (y + (k + 254)) % 256 ≡ x
diff_back x y k hx hy e = omega arith

-- a Luma's green there and back
green_back : (x y k : ℕ) → x < 256 → y < 256 → k ≡ (added x y + 32) % 256 → (y + (k + 224)) % 256 ≡ x
green_back x y k hx hy e = omega arith

-- a Luma's red or blue there and back
luma_back : (x y u v k l : ℕ) → x < 256 → y < 256 → u < 256 → v < 256 → k ≡ (added u v + 32) % 256 → l ≡ (added x y + (264 - added u v)) % 256
    → (y + (k + l + 216)) % 256 ≡ x
luma_back x y u v k l hx hy hu hv e f = omega arith

-- what a Diff adds fits
diff_fits : (x y k : ℕ) → y < 256 → k < 4 → (y + (k + 254)) % 256 ≡ x → (added x y + 2) % 256 < 4
diff_fits x y k hy hk e = omega arith

-- what a Luma adds to green fits
green_fits : (x y k : ℕ) → y < 256 → k < 64 → (y + (k + 224)) % 256 ≡ x → (added x y + 32) % 256 < 64
green_fits x y k hy hk e = omega arith

-- what a Luma adds to red or blue fits
luma_fits : (x y u v k l : ℕ) → y < 256 → v < 256 → k < 64 → l < 16 → (v + (k + 224)) % 256 ≡ u → (y + (k + l + 216)) % 256 ≡ x
    → (added x y + (264 - added u v)) % 256 < 16
luma_fits x y u v k l hy hv hk hl e f = omega arith

-- a Diff's byte holds its bits
in_diff : (r g b : ℕ) → r < 4 → g < 4 → b < 4 → ((64 + r * 16 + g * 4 + b) / 16 % 4 ≡ r) × ((64 + r * 16 + g * 4 + b) / 4 % 4 ≡ g)
    × ((64 + r * 16 + g * 4 + b) % 4 ≡ b)
in_diff r g b hr hg hb = (omega arith, omega arith, omega arith)

-- a Luma's bytes hold its bits
in_luma : (r g b : ℕ) → r < 16 → g < 64 → b < 16 → ((128 + g) % 64 ≡ g) × ((r * 16 + b) / 16 ≡ r) × ((r * 16 + b) % 16 ≡ b)
in_luma r g b hr hg hb = (omega arith, omega arith, omega arith)

-- Diff, Luma and Rgb keep alpha
alpha_stays : (past : Past) (p : RgbaPixel) (c : Chunk) → 0 < rank c → rank c < 4 → pixel_after past c ≡ p → p.a ≡ (previous past).a
unfolding after_diff after_luma
alpha_stays past p (Diff d) h l e = sym (ap (λ x. x.a) e)
alpha_stays past p (Luma d d2) h l e = sym (ap (λ x. x.a) e)
alpha_stays past p (Rgb r g b) h l e = sym (ap (λ x. x.a) e)
alpha_stays past p c h l e = absurd (omega arith)

-- an Rgba is first if alpha changes
pub first_rgba : (past : Past) (p : RgbaPixel) → p.a ≢ (previous past).a → IsFirst past p (Rgba p.r p.g p.b p.a)
first_rgba past p changes = record {
  spells = omega arith;
  gives = same_pixel _ p refl refl refl refl;
  first = λ d i s e. ⊎_elim (λ low. absurd (changes (alpha_stays past p d s low e))) (λ high. high) (cases_lt (rank d) 4);
}

module _ (past : Past) (p : RgbaPixel) (iq : IsPixel (previous past)) (ip : IsPixel p) where
  abbrev q : RgbaPixel
  q = previous past

  -- alpha stays exactly if its step is 0
  alpha_same : 0 ≡ (steps q p).a → p.a ≡ q.a
  alpha_same e = omega (arith, iq.a, ip.a)

  alpha_step : p.a ≡ q.a → (steps q p).a ≡ 0
  alpha_step e = omega (arith, iq.a, ip.a)

  -- if the steps fit, the Diff gives the pixel
  diff_gives : FitsDiff q p → pixel_after past (diff_of (diff_steps (steps q p))) ≡ p
  unfolding after_diff
  diff_gives t =
      let f = diff_small (diff_steps (steps q p)) t in
      let k = in_diff _ _ _ f.0 f.1 f.2 in
      same_pixel _ p (diff_back p.r q.r _ ip.r iq.r k.0) (diff_back p.g q.g _ ip.g iq.g k.1) (diff_back p.b q.b _ ip.b iq.b k.2) (sym (alpha_same (sym f.3)))

  -- so does the Luma
  luma_gives : FitsLuma q p → pixel_after past (luma_of (luma_steps (steps q p))) ≡ p
  unfolding after_luma
  luma_gives t =
      let f = luma_small (luma_steps (steps q p)) t in
      let k = in_luma _ _ _ f.0 f.1 f.2 in
      same_pixel _ p (luma_back p.r q.r p.g q.g _ _ ip.r iq.r ip.g iq.g k.0 k.1) (green_back p.g q.g _ ip.g iq.g k.0)
      (luma_back p.b q.b p.g q.g _ _ ip.b iq.b ip.g iq.g k.0 k.2) (sym (alpha_same (sym f.3)))

  -- if a Diff gives the pixel, the steps fit one
  from_diff : (d : ℕ) → after_diff q d ≡ p → FitsDiff q p
  unfolding after_diff
  from_diff d e = from_small _ _ _ 4 4 4 _
      (diff_fits p.r q.r (d / 16 % 4) iq.r (omega arith) (ap (λ x. x.r) e))
      (diff_fits p.g q.g (d / 4 % 4) iq.g (omega arith) (ap (λ x. x.g) e))
      (diff_fits p.b q.b (d % 4) iq.b (omega arith) (ap (λ x. x.b) e))
      (alpha_step (sym (ap (λ x. x.a) e)))

  -- so they do if a Luma gives it
  from_luma : (d e : ℕ) → e < 256 → after_luma q d e ≡ p → FitsLuma q p
  unfolding after_luma
  from_luma d e he s = from_small _ _ _ 16 64 16 _
      (luma_fits p.r q.r p.g q.g (d % 64) (e / 16) iq.r iq.g (omega arith) (omega arith) (ap (λ x. x.g) s) (ap (λ x. x.r) s))
      (green_fits p.g q.g (d % 64) iq.g (omega arith) (ap (λ x. x.g) s))
      (luma_fits p.b q.b p.g q.g (d % 64) (e % 16) iq.b iq.g (omega arith) (omega arith) (ap (λ x. x.g) s) (ap (λ x. x.b) s))
      (alpha_step (sym (ap (λ x. x.a) s)))

  -- if the steps fit none, each chunk that gives the pixel comes later
  not_diff : (FitsDiff q p → ⊥) → (c : Chunk) → 0 < rank c → pixel_after past c ≡ p → 2 ≤ rank c
  not_diff unfit (Diff d) s e = absurd (unfit (from_diff d e))
  not_diff unfit c s e = omega arith

  not_luma : (FitsDiff q p → ⊥) → (FitsLuma q p → ⊥) → (c : Chunk) → IsChunk c → 0 < rank c → pixel_after past c ≡ p → 3 ≤ rank c
  not_luma unfit wide (Diff d) i s e = absurd (unfit (from_diff d e))
  not_luma unfit wide (Luma d f) i s e = absurd (wide (from_luma d f i.2 e))
  not_luma unfit wide c i s e = omega arith

  -- else the Rgb is first if alpha stays
  pub first_rgb : p.a ≡ q.a → (FitsDiff q p → ⊥) → (FitsLuma q p → ⊥) → IsFirst past p (Rgb p.r p.g p.b)
  first_rgb alpha unfit wide = record { spells = omega arith; gives = same_pixel _ p refl refl refl (sym alpha); first = not_luma unfit wide }

  -- the chunk that the tests choose is the first that gives the pixel
  spelled_first : (is_diff is_luma keeps : Bool) → fits_in_diff (diff_steps (steps q p)) ≡ is_diff → fits_in_luma (luma_steps (steps q p)) ≡ is_luma
      → ((steps q p).a == 0) ≡ keeps → IsFirst past p (spelled is_diff is_luma keeps (diff_steps (steps q p)) (luma_steps (steps q p)) p)
  spelled_first true is_luma keeps d l k = record { spells = omega arith; gives = diff_gives d; first = λ c i s e. s }
  spelled_first false true keeps d l k = record { spells = omega arith; gives = luma_gives l; first = λ c i s e. not_diff (λ f. true≢false (sym f ∙ d)) c s e }
  spelled_first false false true d l k = first_rgb (alpha_same (sym (eqb-true (steps q p).a 0 k))) (λ f. true≢false (sym f ∙ d)) (λ f. true≢false (sym f ∙ l))
  spelled_first false false false d l k = first_rgba past p (λ same. true≢false (sym (eq-eqb (steps q p).a 0 (alpha_step same)) ∙ k))

  -- so `first_chunk` is
  pub first_is : IsChunk (first_chunk q p) × IsFirst past p (first_chunk q p)
  unfolding first_chunk
  first_is = (spelled_chunk _ _ _ (diff_steps (steps q p)) (luma_steps (steps q p)) p (λ t. t) (λ t. t) ip, spelled_first _ _ _ refl refl refl)

-- it is after q, whatever was before that
pub first_after : (q p : RgbaPixel) → IsPixel q → IsPixel p → IsChunk (first_chunk q p) × ((past : Past) → previous past ≡ q → IsFirst past p (first_chunk q p))
first_after q p iq ip = (
  (first_is (q ∷ []) p iq ip).0,
  λ past e. subst (λ z. IsFirst past p (first_chunk z p)) e (first_is past p (subst IsPixel (sym e) iq) ip).1,
)
