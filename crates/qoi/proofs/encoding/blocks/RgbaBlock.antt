-- Pixels of which an RGBA chunk gives each: what their lanes have, and their bytes.
use Rattle.std.proofs.Common.{◌≡◌, ℕ, suc, ◌+◌, ◌-◌, ◌%◌, Bool, true, false, not, ◌||◌, List, [], ◌∷◌, ◌++◌, length, map, replicate, bit_and, bit_or, if◌then◌else◌, refl, sym, ap, ◌∙◌, arith, slice_index}
use Rattle.std.specs.Prelude.{max}
use Rattle.std.specs.List.{AllByRecursion, list_all}
use Rattle.std.proofs.lemmas.Bool.{and_parts, and_right, true≢false}
use Rattle.std.proofs.lemmas.Nat.{and_le_l}
use Rattle.qoi.specs.Styles.{Style}
use Rattle.qoi.specs.Qoi.{RgbaPixel, pixel_eq, hash, bytes_of}
use Rattle.qoi.specs.inner.block.Vectors.{named_in, firsts_in, sizes, counts, is_rgba, AreAllRgba}
use Rattle.qoi.specs.inner.block.Storing.{rgba_bytes}
use Rattle.qoi.specs.inner.block.Lanes.{Lane, IsLane, mask, as_diff, as_luma, same_alpha, fits_diff, fits_luma, lane_bytes, second_of, State, lanes_of, is_rep, goes_on, step_by, next_by, block_bytes}
use Rattle.qoi.proofs.format.SamePixels.{hash_below}
use Rattle.qoi.proofs.encoding.blocks.LaneBytes.{repeat_fits, none_and}
use Rattle.qoi.proofs.encoding.lanes.LaneChunk.{chunk_by}
use Rattle.qoi.specs.WrittenList.{first_chunk, luma_of}
use Rattle.qoi.proofs.encoding.blocks.StyledBytes.{fresh_stays}

-- neither of two masks
pub neither : (a b : Bool) → 255 - bit_or (mask a) (mask b) ≡ mask (not (a || b))
neither a b = grind arith

-- what a lane has whose pixel an RGBA chunk gives
pub record RgbaLane (l : Lane) : Type 0 where
  pub fresh : is_rep l ≡ false
  pub bytes_are : lane_bytes l ≡ 255 ∷ l.px.r ∷ l.px.g ∷ l.px.b ∷ l.px.a ∷ []
  pub second_is : second_of l ≡ l.px.r

-- neither of two holds
neither_of : (a b : Bool) → not (a || b) ≡ true → (a ≡ false) × (b ≡ false)
neither_of a b e = grind arith

-- a lane whose pixel an RGBA chunk gives has these
rgba_lane : (l : Lane) → IsLane l → is_rgba l ≡ true → RgbaLane l
unfolding first_chunk
rgba_lane l is full =
    let both = neither_of (same_alpha l) l.stands full in
    let k = both.0 in
    let st = both.1 in
    let d : fits_diff l ≡ false = and_right _ (same_alpha l) k in
    let u : fits_luma l ≡ false = and_right _ (same_alpha l) k in
    record {
      fresh = go k (is_rep l) refl;
      bytes_are = λ i. bytes_of (chunk_by (st i) (d i) (u i) (k i) (hash l.px) (as_diff l) (as_luma l) l.px);
      second_is = λ i. if u i then slice_index (bytes_of (luma_of (as_luma l))) 1 else l.px.r;
    }
  where
    go : same_alpha l ≡ false → (b : Bool) → is_rep l ≡ b → is_rep l ≡ false
    go k true e = absurd (true≢false (sym (and_parts _ (same_alpha l) (repeat_fits l is.px_is e)).1 ∙ k))
    go k false e = e

-- each of these has
pub rgba_lanes : (ls : List Lane) → AllByRecursion IsLane ls → AreAllRgba ls → AllByRecursion RgbaLane ls
rgba_lanes [] are full = tt
rgba_lanes (l ∷ ls) are full = let p = and_parts (is_rgba l) (list_all is_rgba ls) full in (rgba_lane l are.0 p.0, rgba_lanes ls are.1 p.1)

-- none is counted
pub none_counted : (c : ℕ) (ls : List Lane) → AllByRecursion RgbaLane ls → counts c (map is_rep ls) ≡ replicate (length ls) 0
none_counted c [] f = refl
none_counted c (l ∷ ls) f = (λ i. counts c (f.0.fresh i ∷ map is_rep ls)) ∙ ap (λ z. 0 ∷ z) (none_counted 0 ls f.1)

-- each has five bytes
pub sizes_full : (ls : List Lane) → AllByRecursion RgbaLane ls → sizes ls ≡ replicate (length ls) 5
sizes_full [] f = refl
sizes_full (l ∷ ls) f =
    let none : (5 + bit_and 0 (mask (goes_on ls))) % 256 ≡ 5 = omega (arith, and_le_l 0 (mask (goes_on ls))) in
    (λ i. (length (f.0.bytes_are i) + bit_and (mask (f.0.fresh i)) (mask (goes_on ls))) % 256 ∷ sizes ls) ∙ (λ i. none i ∷ sizes_full ls f.1 i)

-- the first is the tag
pub tags_in : (style : Style) (q : Bool) (c : ℕ) (ls : List Lane) → AllByRecursion RgbaLane ls → firsts_in style q c ls ≡ replicate (length ls) 255
tags_in style q c [] f = refl
tags_in style q c (l ∷ ls) f =
    (λ i. let n = if f.0.fresh i then suc c else 0 in
    named_in style (f.0.fresh i) q (hash l.px) n (max (slice_index (f.0.bytes_are i) 0) (bit_and (mask (f.0.fresh i)) ((n + 191) % 256))) ∷ firsts_in style l.stands n ls)
    ∙ (λ i. named_in style false q (hash l.px) 0 (none_and 255 (191 % 256) i) ∷ tags_in style l.stands 0 ls f.1 i)
    ∙ ap (λ z. z ∷ replicate (length ls) 255) (fresh_stays style q (hash l.px) 255 (hash_below l.px) (omega arith))

-- the second byte is red
pub reds_full : (ls : List Lane) → AllByRecursion RgbaLane ls → map second_of ls ≡ map (λ (l : Lane). l.px.r) ls
reds_full [] f = refl
reds_full (l ∷ ls) f = λ i. f.0.second_is i ∷ reds_full ls f.1 i

-- what is written are the RGBA chunks
pub rgba_written : (style : Style) (s : State) (ps : List RgbaPixel) → AllByRecursion RgbaLane (lanes_of s.held s.last ps) → block_bytes style s ps ≡ rgba_bytes ps
rgba_written style s [] f = refl
rgba_written style s (p ∷ ps) f =
    let m = goes_on (lanes_of (p ∷ s.held) p ps) in
    let one : step_by (pixel_eq p s.last) m style s p ≡ 255 ∷ p.r ∷ p.g ∷ p.b ∷ p.a ∷ [] =
    (λ i. step_by (f.0.fresh i) m style s p) ∙ f.0.bytes_are in
    λ i. one i ++ rgba_written style (next_by (pixel_eq p s.last) m s p) ps f.1 i
