-- Some verdict holds of any bytes.
use Rattle.std.proofs.Common.{◌≡◌, ℕ, ◌+◌, ◌-◌, ◌<◌, ◌≤◌, ◌⊎◌, inl, inr, zero, suc, List, [], ◌∷◌, ◌++◌, length, take, drop, arith, refl, ap, sym, ◌∙◌, subst, append_assoc, length-append, add-one, take-append-drop, length-take}
use Rattle.std.proofs.lemmas.Bool.{cases_lt, cases_Bool, true≢false}
use Rattle.std.proofs.lemmas.Slice.Eq.{bytes_eq-Decides}
use Rattle.std.specs.Str.{bytes_eq}
use Rattle.qoi.specs.Qoi.{Chunk, Place, Diff, Luma, Run, Rgb, Rgba, AreBytes, Past, IsChunk, AreChunks, bytes_of, chunk_bytes, then_chunk, then_chunks, meaning, end_marker}
use Rattle.qoi.specs.Verdicts.{IsPartOfChunk, HasChunks, IsWhole, IsWrong, AreCut}
use Rattle.qoi.proofs.format.PartOfChunk.{part_empty, part_luma, part_rgb, part_rgba}
use Rattle.qoi.proofs.format.OneVerdict.{StayBelowAfter, EndsChunks}
use Rattle.qoi.proofs.format.ChunkSteps.{length-bytes_of, length-meaning}

-- what follows some bytes is bytes
pub bytes_after_front : (front rest : List ℕ) → AreBytes (front ++ rest) → AreBytes rest
bytes_after_front [] rest fits = fits
bytes_after_front (b ∷ front) rest fits = bytes_after_front front rest (λ i. let h = fits (i + 1) in rw add-one at h)

-- the bytes begin with a whole chunk
abbrev BeginsWithChunk : List ℕ → Type 0
BeginsWithChunk bytes = (c : Chunk) × (rest : List ℕ) × IsChunk c × (bytes ≡ bytes_of c ++ rest)

-- bytes whose first byte is that of a luma
luma_front : (b : ℕ) (bytes : List ℕ) → AreBytes (b ∷ bytes) → 128 ≤ b → b < 192 → BeginsWithChunk (b ∷ bytes) ⊎ IsPartOfChunk (b ∷ bytes)
luma_front b [] fits low high = inr (part_luma (b ∷ []) fits (omega arith) low high)
luma_front b (e ∷ rest) fits low high = inl (Luma b e, rest, (low, high, fits 1), refl)

-- bytes whose first byte is fe
rgb_front : (b : ℕ) (bytes : List ℕ) → AreBytes (b ∷ bytes) → b ≡ 254 → BeginsWithChunk (b ∷ bytes) ⊎ IsPartOfChunk (b ∷ bytes)
rgb_front x (r ∷ g ∷ b ∷ rest) fits is = inl (Rgb r g b, rest, (fits 1, fits 2, fits 3), cc)
rgb_front x bytes fits is = inr (part_rgb (x ∷ bytes) fits (omega arith) is)

-- bytes whose first byte is ff
rgba_front : (b : ℕ) (bytes : List ℕ) → AreBytes (b ∷ bytes) → b ≡ 255 → BeginsWithChunk (b ∷ bytes) ⊎ IsPartOfChunk (b ∷ bytes)
rgba_front x (r ∷ g ∷ b ∷ a ∷ rest) fits is = inl (Rgba r g b a, rest, (fits 1, fits 2, fits 3, fits 4), cc)
rgba_front x bytes fits is = inr (part_rgba (x ∷ bytes) fits (omega arith) is)

-- bytes begin with a whole chunk, or are part of one
front : (bytes : List ℕ) → AreBytes bytes → BeginsWithChunk bytes ⊎ IsPartOfChunk bytes
front [] fits = inr (part_empty [] (omega arith))
front (b ∷ bytes) fits =
    elim (cases_lt b 64) [
      | inl h ↦ inl (Place b, bytes, h, refl)
      | inr h ↦ elim (cases_lt b 128) [
        | inl k ↦ inl (Diff b, bytes, (h, k), refl)
        | inr k ↦ elim (cases_lt b 192) [
          | inl l ↦ luma_front b bytes fits k l
          | inr l ↦ elim (cases_lt b 254) [
            | inl m ↦ let n : b ≡ 191 + (b - 191) = omega arith in inl (Run (b - 191), bytes, (omega arith, omega arith), ap (λ x. x ∷ bytes) n)
            | inr m ↦ elim (cases_lt b 255) [
              | inl n ↦ rgb_front b bytes fits (omega arith)
              | inr n ↦ rgba_front b bytes fits (omega (arith, fits 0))
            ]
          ]
        ]
      ]
    ]

-- chunks that begin these bytes after these pixels, up to where reading ends
pub record Reading (n : ℕ) (past : Past) (bytes : List ℕ) : Type 0 where
  pub found : List Chunk
  pub rest : List ℕ
  pub chunks : AreChunks found
  pub stays_below : StayBelowAfter n past found
  pub split : bytes ≡ chunk_bytes found ++ rest
  pub ends : EndsChunks n (then_chunks past found) rest

-- reading ends at once
reading_ends : (n : ℕ) (past : Past) (bytes : List ℕ) → EndsChunks n past bytes → Reading n past bytes
reading_ends n past bytes h = record { found = []; rest = bytes; chunks = tt; stays_below = tt; split = refl; ends = h }

-- reading ends, since each chunk takes a byte or more
pub reading_of : (fuel n : ℕ) (past : Past) (bytes : List ℕ) → length bytes < fuel → AreBytes bytes → Reading n past bytes
reading_of zero n past bytes h fits = absurd (omega arith)
reading_of (suc fuel) n past bytes h fits =
    elim (cases_lt (length past) n) [
      | inr enough ↦ reading_ends n past bytes (inl enough)
      | inl below ↦ elim (front bytes fits) [
        | inr part ↦ reading_ends n past bytes (inr (below, part))
        | inl w ↦
            let r = reading_of fuel n (then_chunk past w.0) w.1
            (omega (arith, ap length w.3, length-append (bytes_of w.0) w.1, (length-bytes_of w.0).0))
            (bytes_after_front (bytes_of w.0) w.1 (subst AreBytes w.3 fits)) in
            record {
              found = w.0 ∷ r.found;
              rest = r.rest;
              chunks = (w.2, r.chunks);
              stays_below = (below, r.stays_below);
              split = w.3 ∙ ap (λ l. bytes_of w.0 ++ l) r.split ∙ sym (append_assoc (bytes_of w.0) (chunk_bytes r.found) r.rest);
              ends = r.ends;
            }
      ]
    ]

-- the bytes are whole, cut or wrong
abbrev pub HasVerdict : ℕ → List ℕ → Type 0
HasVerdict n bytes = ((cs : List Chunk) × (rest : List ℕ) × IsWhole n bytes cs rest) ⊎ (AreCut n bytes
    ⊎ ((cs : List Chunk) × (eight rest : List ℕ) × IsWrong n bytes cs eight rest))

-- the verdict if n pixels are reached and eight bytes or more follow
marker_verdict : (n : ℕ) (bytes : List ℕ) (cs : List Chunk) (eight rest : List ℕ) → HasChunks n bytes cs (eight ++ rest)
    → n ≤ length (meaning cs) → length eight ≡ 8 → HasVerdict n bytes
marker_verdict n bytes cs eight rest t enough h =
    let same = bytes_eq-Decides eight end_marker in
    elim (cases_Bool (bytes_eq eight end_marker)) [
      | inl yes_same ↦ inl (
        cs,
        rest,
        record { has = subst (λ (l : List ℕ). HasChunks n bytes cs (l ++ rest)) (same.0 yes_same) t; enough = enough },
      )
      | inr differs ↦ inr (inr (cs, eight, rest, record { has = t; enough = enough; length_is = h; other = λ e. true≢false (sym (same.1 e) ∙ differs) }))
    ]

-- the verdict from a reading
verdict_of_ends : (n : ℕ) (bytes : List ℕ) (cs : List Chunk) (rest : List ℕ) → HasChunks n bytes cs rest → EndsChunks n (then_chunks [] cs) rest
    → HasVerdict n bytes
verdict_of_ends n bytes cs rest t (inr part) = inr (inl (cs, rest, record { has = t; ends = inl (omega (arith, length-meaning cs), part.1) }))
verdict_of_ends n bytes cs rest t (inl enough) =
    let above : n ≤ length (meaning cs) = omega (arith, length-meaning cs) in
    elim (cases_lt (length rest) 8) [
      | inl few ↦ inr (inl (cs, rest, record { has = t; ends = inr (above, few) }))
      | inr many ↦ marker_verdict n bytes cs (take 8 rest) (drop 8 rest)
          (subst (λ (l : List ℕ). HasChunks n bytes cs l) (sym (take-append-drop 8 rest)) t) above (omega (arith, length-take 8 rest))
    ]

-- bytes have a verdict for each number of pixels
pub verdict_of : (n : ℕ) (bytes : List ℕ) → AreBytes bytes → HasVerdict n bytes
verdict_of n bytes fits =
    let r = reading_of (suc (length bytes)) n [] bytes (omega arith) fits in
    verdict_of_ends n bytes r.found r.rest (record { chunks = r.chunks; stays_below = r.stays_below; split = r.split }) r.ends
