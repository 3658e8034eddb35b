-- A buffer that is filled with pixels, one after the other.
use Rattle.std.proofs.Common.{◌≡◌, ℕ, ◌+◌, ◌-◌, ◌*◌, ◌/◌, ◌%◌, ◌<◌, ◌≤◌, ◌⊎◌, inl, inr, List, ◌++◌, length, take, reverse, replicate, min, arith, sym, ap, ◌∙◌, subst, length-append}
use Rattle.std.proofs.lemmas.List.{length-reverse, reverse-append, take-append-le, length-replicate, reverse-reverse}
use Rattle.std.proofs.lemmas.Grind.{flat_map-append}
use Rattle.qoi.specs.Qoi.{RgbaPixel, Past}
use Rattle.qoi.specs.Raw.{IsChannels, pixel_bytes, output}
use Rattle.qoi.specs.inner.Filling.{HasWritten, HasFilled}
use Rattle.qoi.proofs.format.WholePixels.{length-output, length-output_reverse, take-output, take_whole}
use Rattle.qoi.proofs.format.ChunkSteps.{repeats_after, reverse-replicate}

-- if there is room, the offset is after the pixels so far
pub record Counts (c n l k at len : ℕ) : Type 0 where
  pub below : l < n
  pub now : at ≡ c * l
  pub next : at + c * k ≡ c * min n (k + l)

-- the offset agrees with how many pixels came, also after k more that fit
pub counts : (c n l k at len : ℕ) → IsChannels c → len ≡ c * n → at ≡ c * min n l → at < len → at + c * k ≤ len → Counts c n l k at len
counts c n l k at len is all now inside fits = record { below = grind (arith, is); now = grind (arith, is); next = grind (arith, is) }

-- without room, the pixels so far are enough
full_counts : (c n l at len : ℕ) → IsChannels c → len ≡ c * n → at ≡ c * min n l → len ≤ at → (n ≤ l) × (at ≡ len)
full_counts c n l at len is all now full = grind (arith, is)

-- the bytes of pixels and of those before them
output-append : (f c : ℕ) (more past : Past) → output f c (reverse (more ++ past)) ≡ output f c (reverse past) ++ output f c (reverse more)
output-append f c more past = ap (output f c) (reverse-append more past) ∙ flat_map-append (pixel_bytes f c) (reverse past) (reverse more)

-- pixels written at the offset after the others, whatever stands after them
filled_list : (f c n : ℕ) (out new : List ℕ) (at : ℕ) (past : Past) (ps : List RgbaPixel) → IsChannels c → at < length out → at + c * length ps ≤ length out
    → length new ≡ length out → take (at + c * length ps) new ≡ take at out ++ output f c ps
    → HasFilled f c n out at past → HasFilled f c n new (at + c * length ps) (reverse ps ++ past)
filled_list f c n out new at past ps is inside fits size e h =
    let at_now = counts c n (length past) (length ps) at (length out) is h.room h.at_is inside fits in
    let bytes = output f c ps in
    let so_far = output f c (reverse past) in
    let end = at + c * length ps in
    let some : length bytes ≡ c * length ps = length-output f c ps is in
    let many : length so_far ≡ at = length-output_reverse f c past is ∙ sym at_now.now in
    let all : length (so_far ++ bytes) ≡ end = omega (arith, length-append so_far bytes) in
    record {
      room = size ∙ h.room;
      at_is = at_now.next ∙ ap (λ k. c * min n k) (sym (length-append (reverse ps) past ∙ ap (λ k. k + length past) (length-reverse ps)));
      same = e ∙ ap (λ z. z ++ bytes) (h.same ∙ take_whole at so_far many)
          ∙ sym (ap (take end) (output-append f c (reverse ps) past ∙ ap (λ z. so_far ++ output f c z) (reverse-reverse ps))
          ∙ take_whole end (so_far ++ bytes) all);
    }

-- if the buffer is full, further pixels change nothing
filled_full : (f c n : ℕ) (out : List ℕ) (at : ℕ) (past more : Past) → IsChannels c → HasFilled f c n out at past → length out ≤ at
    → HasFilled f c n out at (more ++ past)
filled_full f c n out at past more is h full =
    let all = full_counts c n (length past) at (length out) is h.room h.at_is full in
    let size = length-append more past in
    let min_is : min n (length (more ++ past)) ≡ min n (length past) = omega (arith, size, all.0) in
    record {
      room = h.room;
      at_is = h.at_is ∙ ap (λ k. c * k) (sym min_is);
      same = h.same ∙ sym (ap (take at) (output-append f c more past) ∙ take-append-le at (output f c (reverse past)) (output f c (reverse more))
          (grind (arith, is, h.room, h.at_is, full, length-output_reverse f c past is)));
    }

-- copies of a pixel that were written count as filled
pub filled_copies : (f c n : ℕ) (out new : List ℕ) (at count : ℕ) (p : RgbaPixel) (past : Past) → IsChannels c → at < length out
    → at + c * count ≤ length out → length new ≡ length out → HasWritten f c out at new (at + c * count) (replicate count p)
    → HasFilled f c n out at past → HasFilled f c n new (at + c * count) (replicate count p ++ past)
filled_copies f c n out new at count p past is inside fits size w h =
    let many : length (replicate count p) ≡ count = length-replicate count p in
    let listed = filled_list f c n out new at past (replicate count p) is inside (rw many fits) size (rw many w.same) h in
    rw (many, reverse-replicate count p) at listed

-- the room that the vectors of any run have is enough for its pixels
pub run_fits : (c at count len : ℕ) → IsChannels c → count ≤ 62 → at + 256 ≤ len → at + c * count ≤ len
run_fits c at count len is few room = grind (arith, is)

-- the copies that a vector holds fit if it does
pub block_fits : (c at count len : ℕ) → IsChannels c → count ≤ 16 / c → at + 16 ≤ len → at + c * count ≤ len
block_fits c at count len is few room = grind (arith, is)

-- as many copies fit as there is room for
pub copies_fit : (c at count len : ℕ) → IsChannels c → at ≤ len → at + c * min count ((len - at) / c) ≤ len
copies_fit c at count len is within = grind (arith, is)

-- there is room for all the copies, or those that fit end where the buffer does
pub copies_end : (c at count len : ℕ) → IsChannels c → len % c ≡ 0 → at % c ≡ 0 → at ≤ len
    → (min count ((len - at) / c) ≡ count) ⊎ (len ≤ at + c * min count ((len - at) / c))
copies_end c at count len is all now within = grind (arith, is)

-- of `count` copies, the ones past those that fit change nothing
pub filled_end : (f c n : ℕ) (out : List ℕ) (at all count : ℕ) (p : RgbaPixel) (past : Past) → IsChannels c → all ≤ count → (all ≡ count) ⊎ (length out ≤ at)
    → HasFilled f c n out at (replicate all p ++ past) → HasFilled f c n out at (replicate count p ++ past)
filled_end f c n out at all count p past is le (inl e) h = subst (λ k. HasFilled f c n out at (replicate k p ++ past)) e h
filled_end f c n out at all count p past is le (inr full) h =
    let sum : count - all + all ≡ count = omega arith in
    subst (λ z. HasFilled f c n out at z) (repeats_after (count - all) all p past ∙ ap (λ k. replicate k p ++ past) sum)
    (filled_full f c n out at (replicate all p ++ past) (replicate (count - all) p) is h full)

-- if the buffer is full it has the bytes of the first n pixels
pub filled_all : (f c n : ℕ) (out : List ℕ) (at : ℕ) (past : Past) → IsChannels c → HasFilled f c n out at past → length out ≤ at
    → (n ≤ length past) × (out ≡ output f c (take n (reverse past)))
filled_all f c n out at past is h full =
    let all = full_counts c n (length past) at (length out) is h.room h.at_is full in
    let enough : n ≤ length (reverse past) = omega (arith, all.0, length-reverse past) in
    let at_all : at ≡ c * n = all.1 ∙ h.room in (
      all.0,
      sym (take_whole at out (sym all.1)) ∙ h.same ∙ ap (λ k. take k (output f c (reverse past))) at_all
          ∙ take-output f c n (reverse past) is enough,
    )
