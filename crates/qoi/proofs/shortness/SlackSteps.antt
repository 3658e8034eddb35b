-- Where the seen and the noted pixel differ, and how the slack grows there.
use Rattle.std.proofs.Common.{◌≡◌, ◌≢◌, ◌⊎◌, inl, inr, ℕ, ◌+◌, ◌≤◌, Bool, true, ◌&&◌, cond, eqb, List, [], ◌∷◌, ◌++◌, reverse, Option, None, Some, slice_get, refl, sym, ap, ◌∙◌, arith}
use Rattle.std.specs.List.{find}
use Rattle.std.specs.Option.{option_or}
use Rattle.std.proofs.lemmas.Bool.{cond_both, cond-true, cond-false, and_parts, and_from, and_right, true≢false, cases_Bool, eq-eqb, ne_eqb, cases_eq, false_from_ne_true}
use Rattle.std.proofs.lemmas.List.{reverse-append, reverse-reverse}
use Rattle.std.proofs.lemmas.List.Folds.{find-append}
use Rattle.qoi.specs.Qoi.{RgbaPixel, Past, start, previous, seen, hash}
use Rattle.qoi.specs.Written.{fresh, noted}
use Rattle.qoi.specs.Shortest.{is_start, slack}
use Rattle.qoi.specs.Encoded.{OpensBlack}
use Rattle.qoi.proofs.format.SamePixels.{cases_pixel, pixel_eq-same, pixel_eq-from}
use Rattle.qoi.proofs.encoding.lists.NotedPixels.{fresh_repeat, fresh_more, noted_repeat, noted_fresh, seen_same, seen_other}

-- the image so far opens with opaque black
abbrev opens : Past → Bool
opens past = is_start (slice_get (reverse past) 0)

-- the first fresh pixel so far at the index position of opaque black
abbrev first_at : Past → Option RgbaPixel
first_at past = find (λ p. eqb (hash p) (hash start)) (reverse (fresh past))

-- the slack of the image so far
pub slack_at : ℕ → Past → ℕ
slack_at n past = cond (opens past && is_start (first_at past)) n 0

-- it is the slack at the end
pub slack_is : (image : List RgbaPixel) (n : ℕ) → slack image n ≡ slack_at n (reverse image)
unfolding slack slack_at
slack_is image n = rw (reverse-reverse image) refl

-- a list that begins with opaque black still does with more pixels
opens_list : (xs ys : List RgbaPixel) → is_start (slice_get xs 0) ≡ true → is_start (slice_get (xs ++ ys) 0) ≡ true
opens_list [] ys h = absurd (true≢false (sym h))
opens_list (x ∷ xs) ys h = h

-- an image still opens with opaque black
opens_more : (past : Past) (p : RgbaPixel) → opens past ≡ true → opens (p ∷ past) ≡ true
opens_more past p h = rw (reverse-append (p ∷ []) past) (opens_list (reverse past) (p ∷ []) h)

-- a fresh pixel is looked at last
first_at-fresh : (past : Past) (p : RgbaPixel) → p ≢ previous past
    → first_at (p ∷ past) ≡ find (λ p. eqb (hash p) (hash start)) (reverse (fresh past) ++ p ∷ [])
first_at-fresh past p n = ap (find (λ p. eqb (hash p) (hash start))) (ap reverse (fresh_more past p n) ∙ reverse-append (p ∷ []) (fresh past))

-- what was found first is still found first
is_start-option : (o more : Option RgbaPixel) → is_start o ≡ true → is_start (option_or o more) ≡ true
is_start-option None more h = absurd (true≢false (sym h))
is_start-option (Some p) more h = h

-- the first fresh pixel at the index position of opaque black stays
returns_more : (past : Past) (p : RgbaPixel) → is_start (first_at past) ≡ true → is_start (first_at (p ∷ past)) ≡ true
returns_more past p h = elim (cases_pixel p (previous past)) as (λ _. is_start (first_at (p ∷ past)) ≡ true) [
  | inl e ↦ rw (fresh_repeat past p e) h
  | inr n ↦ rw (first_at-fresh past p n, find-append (λ p. eqb (hash p) (hash start)) (reverse (fresh past)) (p ∷ [])) (is_start-option (first_at past) _ h)
]

-- the slack only grows
pub slack_more : (n : ℕ) (past : Past) (p : RgbaPixel) → slack_at n past ≤ slack_at n (p ∷ past)
unfolding slack_at
slack_more n past p = elim (cases_Bool (opens past && is_start (first_at past))) as
    (λ _. cond (opens past && is_start (first_at past)) n 0 ≤ cond (opens (p ∷ past) && is_start (first_at (p ∷ past))) n 0) [
      | inl e ↦
          let w = and_parts (opens past) (is_start (first_at past)) e in
          rw (opens_more past p w.0, returns_more past p w.1) (cond_both (opens past && is_start (first_at past)) n 0 (λ x. x ≤ n) (λ _. omega arith)
          (λ _. omega arith))
      | inr e ↦ rw e (omega arith)
    ]

-- Where what is seen and what is noted at an index position differ: it is that of opaque black,
-- with which the image opens and which is seen there, and no fresh pixel so far has it.
record Differs (past : Past) (i : ℕ) : Type 0 where
  pub place : i ≡ hash start
  pub opened : opens past ≡ true
  pub nothing : first_at past ≡ None
  pub last : seen past i ≡ start

-- the seen pixel is the noted one, or they differ
noted_or_differs : (past : Past) (i : ℕ) → (seen past i ≡ noted past i) ⊎ Differs past i
noted_or_differs [] i = inl refl
noted_or_differs (q ∷ past) i = go past (cases_pixel q (previous past)) (cases_eq (hash q) i) (noted_or_differs past i)
  where
    -- they still differ
    still : (past : Past) → Differs past i → (q ≢ previous past → hash q ≢ hash start) → seen (q ∷ past) i ≡ start → Differs (q ∷ past) i
    still past d other last = record { place = d.place; opened = opens_more past q d.opened; nothing = none (cases_pixel q (previous past)); last = last }
      where
        none : (q ≡ previous past) ⊎ (q ≢ previous past) → first_at (q ∷ past) ≡ None
        none (inl e) = ap (λ x. find (λ p. eqb (hash p) (hash start)) (reverse x)) (fresh_repeat past q e) ∙ d.nothing
        none (inr n) =
            first_at-fresh past q n ∙ find-append (λ p. eqb (hash p) (hash start)) (reverse (fresh past)) (q ∷ [])
            ∙ ap (λ x. option_or x (find (λ p. eqb (hash p) (hash start)) (q ∷ []))) d.nothing
            ∙ cond-false (eqb (hash q) (hash start)) (Some q) None (ne_eqb _ _ (other n))

    repeat_here : (past : Past) → q ≡ previous past → hash q ≡ i → (seen past i ≡ noted past i) ⊎ Differs past i
        → (seen (q ∷ past) i ≡ noted (q ∷ past) i) ⊎ Differs (q ∷ past) i
    repeat_here [] e same h = inr (record {
      place = sym same ∙ ap hash e;
      opened = rw e (pixel_eq-same start);
      nothing = ap (λ x. find (λ p. eqb (hash p) (hash start)) (reverse x)) (fresh_repeat [] q e);
      last = seen_same [] q i same ∙ e;
    })
    repeat_here (r ∷ past) e same (inl h) = inl (grind (arith, h, e, same, noted_repeat (r ∷ past) q i e))
    repeat_here (r ∷ past) e same (inr d) = inr (still (r ∷ past) d (λ n. absurd (n e)) (grind (arith, d.last, e, same)))

    go : (past : Past) → (q ≡ previous past) ⊎ (q ≢ previous past) → (hash q ≡ i) ⊎ (hash q ≢ i) → (seen past i ≡ noted past i) ⊎ Differs past i
        → (seen (q ∷ past) i ≡ noted (q ∷ past) i) ⊎ Differs (q ∷ past) i
    go past (inl e) (inl same) h = repeat_here past e same h
    go past n (inr other) (inr d) = inr (still past d (λ _ s. other (s ∙ sym d.place)) (seen_other past q i other ∙ d.last))
    go past (inl e) (inr other) (inl h) = inl (seen_other past q i other ∙ h ∙ sym (noted_repeat past q i e))
    go past (inr n) (inl same) h = inl (seen_same past q i same ∙ sym (noted_fresh past q i n ∙ cond-true (eqb (hash q) i) q (noted past i) (eq-eqb _ _ same)))
    go past (inr n) (inr other) (inl h) =
        inl (seen_other past q i other ∙ h ∙ sym (noted_fresh past q i n ∙ cond-false (eqb (hash q) i) q (noted past i) (ne_eqb _ _ other)))

-- So if a fresh pixel is seen at its index position, but not noted there, the slack grows from none
-- to all.
pub slack_grows : (n : ℕ) (past : Past) (p : RgbaPixel) → p ≢ previous past → noted past (hash p) ≢ p → seen past (hash p) ≡ p
    → slack_at n past + n ≡ slack_at n (p ∷ past)
unfolding slack_at
slack_grows n past p f other s = elim (noted_or_differs past (hash p)) as (λ _. slack_at n past + n ≡ slack_at n (p ∷ past)) [
  | inl e ↦ absurd (other (sym e ∙ s))
  | inr d ↦
      let found : first_at (p ∷ past) ≡ Some p = first_at-fresh past p f
      ∙ find-append (λ p. eqb (hash p) (hash start)) (reverse (fresh past)) (p ∷ [])
      ∙ ap (λ x. option_or x (find (λ p. eqb (hash p) (hash start)) (p ∷ []))) d.nothing
      ∙ cond-true (eqb (hash p) (hash start)) (Some p) None (eq-eqb _ _ d.place) in
      let none = cond-false (opens past && is_start (first_at past)) n 0 (and_right (opens past) _ (ap is_start d.nothing)) in
      let all = cond-true (opens (p ∷ past) && is_start (first_at (p ∷ past))) n 0
      (and_from _ _ (opens_more past p d.opened) (ap is_start found ∙ pixel_eq-from p start (sym s ∙ d.last))) in
      omega arith
]

-- the slack is at most the number of channels
pub slack_most : (image : List RgbaPixel) (n : ℕ) → slack image n ≤ n
unfolding slack
slack_most image n = grind arith

-- there is none if the image doesn't open with opaque black
pub slack_opens : (image : List RgbaPixel) (n : ℕ) → (OpensBlack image → ⊥) → slack image n ≡ 0
unfolding slack
slack_opens image n closed = rw (false_from_ne_true (is_start (slice_get image 0)) closed) refl
