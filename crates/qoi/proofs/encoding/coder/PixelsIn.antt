-- The pixels of whole raw bytes: how many there are, and those at the front.
use Rattle.std.proofs.Common.{◌≡◌, ◌≢◌, ◌⊎◌, inl, inr, ℕ, zero, suc, ◌-◌, ◌*◌, ◌/◌, ◌%◌, ◌<◌, ◌≤◌, List, [], ◌∷◌, ◌++◌, length, take, drop, replicate, min, Some, refl, sym, ap, ◌∙◌, arith, take-append-drop, append-nil, length-drop}
use Rattle.std.proofs.Math.Seq.{take-length}
use Rattle.std.proofs.lemmas.Bool.{cases_lt}
use Rattle.std.proofs.lemmas.List.{length-take-le, take-append-le, take_all}
use Rattle.std.specs.List.{slice_get}
use Rattle.qoi.specs.Qoi.{RgbaPixel}
use Rattle.qoi.specs.Raw.{IsChannels, pixels_of}
use Rattle.qoi.specs.Runs.{IsCount}
use Rattle.qoi.proofs.format.RawPixels.{length-pixels_of, pixels_of-append}
use Rattle.qoi.proofs.encoding.lists.GroupRuns.{none_of_few}
use Rattle.qoi.proofs.format.WholePixels.{by_channels, whole_pixels, take_whole}

-- n bytes a pixel
pub byte_count : (n : ℕ) (bytes : List ℕ) → IsChannels n → length bytes % n ≡ 0 → length bytes ≡ n * length (pixels_of n bytes)
byte_count n bytes is whole =
    let size = whole_pixels n (length bytes) is whole in
    size ∙ ap (λ k. n * k) (sym (length-pixels_of n (length bytes / n) bytes is size))

-- as many pixels have as many bytes
pub bytes_within : (n k : ℕ) (bytes : List ℕ) → IsChannels n → length bytes % n ≡ 0 → k ≤ length (pixels_of n bytes) → n * k ≤ length bytes
bytes_within n k bytes is whole inside =
    let size = byte_count n bytes is whole in
    by_channels (λ c. length bytes ≡ c * length (pixels_of n bytes) → c * k ≤ length bytes) is (λ e. omega arith) (λ e. omega arith) size

-- and as few bytes as few pixels
pub pixels_within : (n k : ℕ) (bytes : List ℕ) → IsChannels n → length bytes % n ≡ 0 → n * k ≤ length bytes → k ≤ length (pixels_of n bytes)
pixels_within n k bytes is whole inside =
    let size = byte_count n bytes is whole in
    by_channels (λ c. length bytes ≡ c * length (pixels_of n bytes) → c * k ≤ length bytes → k ≤ length (pixels_of n bytes)) is
    (λ e l. omega arith) (λ e l. omega arith) size inside

-- both
pub ruleset sizes = (bytes_within, pixels_within)

-- there are no more pixels than bytes
pub pixels_few : (n : ℕ) (bytes : List ℕ) → IsChannels n → length bytes % n ≡ 0 → length (pixels_of n bytes) ≤ length bytes
pixels_few n bytes is whole =
    by_channels (λ c. length bytes ≡ c * length (pixels_of n bytes) → length (pixels_of n bytes) ≤ length bytes) is (λ e. omega arith) (λ e. omega arith) (byte_count n bytes is whole)

-- bytes of less than a pixel at the end change no pixel
pub whole_part : (n : ℕ) (bytes : List ℕ) → IsChannels n → pixels_of n (take (length bytes - length bytes % n) bytes) ≡ pixels_of n bytes
whole_part n bytes is =
    let len = length bytes in
    let m = len - len % n in
    let near = take m bytes in
    let size : length near ≡ n * (len / n) = length-take-le m bytes (omega arith) ∙ by_channels (λ c. len - len % c ≡ c * (len / c)) is (omega arith) (omega arith) in
    let few : len - m < n = by_channels (λ c. len - (len - len % c) < c) is (omega arith) (omega arith) in
    sym (ap (pixels_of n) (sym (take-append-drop m bytes)) ∙ pixels_of-append n (len / n) near (drop m bytes) is size
    ∙ ap (λ z. pixels_of n near ++ z) (none_of_few n (drop m bytes) is (omega (arith, length-drop m bytes, few))) ∙ append-nil (pixels_of n near))

-- the bytes of the first pixels, or all if there are fewer
pub pixels_near : (n most m : ℕ) (bytes : List ℕ) → IsChannels n → length bytes % n ≡ 0 → m ≡ min (length bytes) (n * most)
    → pixels_of n (take m bytes) ≡ take most (pixels_of n bytes)
pixels_near n most m bytes is whole m_is = elim (cases_lt (n * most) (length bytes)) as (λ _. pixels_of n (take m bytes) ≡ take most (pixels_of n bytes)) [
  | inl many ↦
      let near = take (n * most) bytes in
      let size : length near ≡ n * most = length-take-le (n * most) bytes (omega arith) in
      let e : m ≡ n * most = omega arith in
      let count = length-pixels_of n most near is size in
      ap (λ k. pixels_of n (take k bytes)) e
      ∙ sym (ap (take most) (ap (pixels_of n) (sym (take-append-drop (n * most) bytes)) ∙ pixels_of-append n most near (drop (n * most) bytes) is size)
      ∙ take-append-le most (pixels_of n near) (pixels_of n (drop (n * most) bytes)) (omega (arith, count)) ∙ take_whole most (pixels_of n near) count)
  | inr all ↦
      let e : m ≡ length bytes = omega arith in
      let size = byte_count n bytes is whole in
      let few : length (pixels_of n bytes) ≤ most = by_channels (λ c. length bytes ≡ c * length (pixels_of n bytes) → length bytes ≤ c * most → length (pixels_of n bytes) ≤ most) is
      (λ a b. omega arith) (λ a b. omega arith) size all in
      ap (λ k. pixels_of n (take k bytes)) e ∙ ap (pixels_of n) (take-length bytes) ∙ sym (take_all most (pixels_of n bytes) few)
]

-- The first `count` pixels are p, at most `most` of them; and another pixel, or none, comes after
-- them, or `count` is `most`.
pub record NearGroup (p : RgbaPixel) (most : ℕ) (pixels : List RgbaPixel) (count : ℕ) : Type 0 where
  pub within : count ≤ length pixels
  pub few : count ≤ most
  pub same : pixels ≡ replicate count p ++ drop count pixels
  pub ends : (slice_get (drop count pixels) 0 ≢ Some p) ⊎ (count ≡ most)

-- if they are counted among the first `most`
pub near_group : (p : RgbaPixel) (most count : ℕ) (pixels : List RgbaPixel) → IsCount p (take most pixels) count → NearGroup p most pixels count
near_group p zero zero ps w = record { within = omega arith; few = omega arith; same = refl; ends = inr refl }
near_group p (suc most) zero [] w = record { within = omega arith; few = omega arith; same = refl; ends = inl w.other }
near_group p (suc most) zero (x ∷ ps) w = record { within = omega arith; few = omega arith; same = refl; ends = inl w.other }
near_group p zero (suc count) ps w = absurd (let e = w.same in cc)
near_group p (suc most) (suc count) [] w = absurd (let e = w.same in cc)
near_group p (suc most) (suc count) (x ∷ ps) w =
    let e : x ∷ take most ps ≡ p ∷ (replicate count p ++ drop count (take most ps)) = w.same in
    let first : x ≡ p = cc in
    let others : take most ps ≡ replicate count p ++ drop count (take most ps) = cc in
    let r = near_group p most count ps (record { same = others; other = w.other }) in
    record {
      within = omega (arith, r.within);
      few = omega (arith, r.few);
      same = λ i. first i ∷ r.same i;
      ends = elim r.ends [ inl other ↦ inl other | inr all ↦ inr (ap suc all) ];
    }

-- if one of them comes first, at least one is counted
pub near_some : (p : RgbaPixel) (most count : ℕ) (pixels : List RgbaPixel) → NearGroup p most pixels count → slice_get pixels 0 ≡ Some p → 0 < most → 0 < count
near_some p most (suc count) ps g first some = omega arith
near_some p most zero ps g first some = elim g.ends as (λ _. 0 < 0) [
  | inl other ↦ absurd (other first)
  | inr all ↦ absurd (omega arith)
]
