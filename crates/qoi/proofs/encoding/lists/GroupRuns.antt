-- The pixels that repeat at the front of bytes, and the runs of a group.
use Rattle.std.proofs.Common.{◌≡◌, ◌≢◌, inl, inr, ℕ, suc, ◌+◌, ◌*◌, ◌<◌, ◌≤◌, List, [], ◌∷◌, ◌++◌, length, take, drop, replicate, false, ◌==◌, Some, refl, sym, ap, ◌∙◌, arith, take-append-drop}
use Rattle.std.proofs.Math.Seq.{drop-append_seam}
use Rattle.std.proofs.lemmas.List.{length-replicate, length-take-le}
use Rattle.std.proofs.lemmas.Bool.{ne_eqb}
use Rattle.std.specs.List.{slice_get}
use Rattle.qoi.specs.Qoi.{RgbaPixel}
use Rattle.qoi.specs.Raw.{IsChannels, pixels_of}
use Rattle.qoi.specs.Runs.{IsCount}
use Rattle.qoi.proofs.format.ChunkSteps.{repeats_after}
use Rattle.qoi.proofs.format.RawPixels.{length-pixels_of, pixels_of-append}
use Rattle.qoi.proofs.encoding.coder.MarkedPixels.{get_drop}

-- two and more aren't one
pub not_one : (n : ℕ) → (suc (suc n) == 1) ≡ false
not_one n = ne_eqb (suc (suc n)) 1 (λ e. omega arith)

-- bytes of less than a pixel have no pixel
pub none_of_few : (n : ℕ) (rest : List ℕ) → IsChannels n → length rest < n → pixels_of n rest ≡ []
none_of_few n (a ∷ b ∷ c ∷ rest) (inl e) h = absurd (omega arith)
none_of_few n (a ∷ b ∷ c ∷ d ∷ rest) (inr e) h = absurd (omega arith)
none_of_few n _ (inl e) h = rw e refl
none_of_few n _ (inr e) h = rw e refl

-- n pixels that are p, and then others
pub count_of : (p : RgbaPixel) (pixels rest : List RgbaPixel) (n : ℕ) → pixels ≡ replicate n p ++ rest → slice_get rest 0 ≢ Some p → IsCount p pixels n
count_of p pixels rest n e other = record {
  same = e ∙ ap (λ x. replicate n p ++ x) (sym later);
  other = λ same. other (ap (λ x. slice_get x 0) (sym later) ∙ get_drop n pixels ∙ same);
}
  where
    later : drop n pixels ≡ rest
    later = ap (drop n) e ∙ ap (λ k. drop k (replicate n p ++ rest)) (sym (length-replicate n p)) ∙ drop-append_seam (replicate n p) rest

-- The first `count` of these pixels are p, and `rest` those after them; there are at most `most`.
pub record RepeatsSoFar (most : ℕ) (pixels rest : List RgbaPixel) (p : RgbaPixel) (count : ℕ) : Type 0 where
  pub within : count + length rest ≤ most
  pub same : pixels ≡ replicate count p ++ rest

-- n pixels more are p
pub repeats_on : (most n : ℕ) (pixels rest after : List RgbaPixel) (p : RgbaPixel) (count : ℕ) → RepeatsSoFar most pixels rest p count → length after + n ≡ length rest
    → rest ≡ replicate n p ++ after → RepeatsSoFar most pixels after p (count + n)
repeats_on most n pixels rest after p count w size more = record {
  within = omega (arith, w.within);
  same = w.same ∙ ap (λ x. replicate count p ++ x) more ∙ repeats_after count n p after;
}

-- repeats, and those that are counted after them
pub counted_on : (p : RgbaPixel) (pixels rest : List RgbaPixel) (n more : ℕ) → pixels ≡ replicate n p ++ rest → IsCount p rest more
    → IsCount p pixels (n + more)
counted_on p pixels rest n more e w = count_of p pixels (drop more rest) (n + more)
    (e ∙ ap (λ x. replicate n p ++ x) w.same ∙ repeats_after n more p (drop more rest)) (λ same. w.other (sym (get_drop more rest) ∙ same))

-- dropping k pixels drops their bytes
pub pixels_drop : (n k : ℕ) (bytes : List ℕ) → IsChannels n → n * k ≤ length bytes → drop k (pixels_of n bytes) ≡ pixels_of n (drop (n * k) bytes)
pixels_drop n k bytes is inside =
    let size : length (take (n * k) bytes) ≡ n * k = length-take-le (n * k) bytes inside in
    ap (λ x. drop k (pixels_of n x)) (sym (take-append-drop (n * k) bytes))
    ∙ ap (drop k) (pixels_of-append n k (take (n * k) bytes) (drop (n * k) bytes) is size)
    ∙ ap (λ j. drop j (pixels_of n (take (n * k) bytes) ++ pixels_of n (drop (n * k) bytes))) (sym (length-pixels_of n k (take (n * k) bytes) is size))
    ∙ drop-append_seam (pixels_of n (take (n * k) bytes)) (pixels_of n (drop (n * k) bytes))
