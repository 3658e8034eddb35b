-- The tight choice of a chunk: for each fresh pixel there is one, and it gives the pixel.
use Rattle.std.proofs.Common.{◌≡◌, ◌≢◌, ◌⊎◌, inl, inr, ℕ, zero, suc, ◌+◌, ◌<◌, ◌≤◌, Bool, true, false, if◌then◌else◌, [], ◌∷◌, Option, None, Some, is_some, MatchOption, refl, sym, ap, ◌∙◌, subst, arith}
use Rattle.std.specs.List.{find, range_with_len}
use Rattle.std.proofs.lemmas.Option.{same_Some}
use Rattle.std.proofs.lemmas.Bool.{cases_eq, cond-true, cond-false, ne_eqb, true≢false}
use Rattle.qoi.specs.Qoi.{Chunk, Place, RgbaPixel, IsPixel, Past, pixel_eq, blank, positions, previous, seen, hash, IsChunk}
use Rattle.qoi.specs.Written.{IsFirst}
use Rattle.qoi.specs.Styles.{Tight, names}
use Rattle.qoi.specs.Tight.{first_and_fresh, is_unseen, least_unseen, IsTightChoice}
use Rattle.qoi.specs.inner.Table.{first_blank}
use Rattle.qoi.proofs.format.SamePixels.{cases_pixel, hash_below, pixel_eq-from, pixel_eq-true, pixel_eq-ne}
use Rattle.qoi.proofs.encoding.coder.Spelled.{first_is}
use Rattle.qoi.specs.WrittenList.{first_chunk, place_or, chosen}
use Rattle.qoi.proofs.encoding.lists.WrittenExists.{SeenOrFirst, by_first, Chooses}
use Rattle.qoi.proofs.encoding.lists.WrittenOnce.{first_unique}

-- a repeat changes no index position, if the pixels before it change none by theirs
seen_next : (p q : RgbaPixel) (past : Past) (i : ℕ) → seen (first_and_fresh (q ∷ past)) i ≡ seen (q ∷ past) i
    → seen (first_and_fresh (p ∷ q ∷ past)) i ≡ seen (p ∷ q ∷ past) i
seen_next p q past i before = grind (arith, before, pixel_eq-true p q)

-- repeats after the first pixel, if put, change no index position
pub seen_first_and_fresh : (past : Past) (i : ℕ) → seen (first_and_fresh past) i ≡ seen past i
seen_first_and_fresh (p ∷ q ∷ past) i = seen_next p q past i (seen_first_and_fresh (q ∷ past) i)
seen_first_and_fresh past i = refl

-- where no pixel was put, transparent black is seen
pub unseen_blank : (past : Past) (i : ℕ) → is_unseen past i ≡ true → seen past i ≡ blank
unseen_blank [] i e = refl
unseen_blank (p ∷ past) i e = next (unseen_blank past i)
  where
    next : (is_unseen past i ≡ true → seen past i ≡ blank) → seen (p ∷ past) i ≡ blank
    next before = grind (arith, before, e)

-- no pixel was put at an index position, or one of that position is seen there
pub unseen_or : (past : Past) (i : ℕ) → (is_unseen past i ≡ true) ⊎ (hash (seen past i) ≡ i)
unseen_or [] i = inl refl
unseen_or (p ∷ past) i = next (unseen_or past i)
  where
    next : (is_unseen past i ≡ true) ⊎ (hash (seen past i) ≡ i) → (is_unseen (p ∷ past) i ≡ true) ⊎ (hash (seen (p ∷ past) i) ≡ i)
    next before = grind (arith, before)

-- what is found passes the test, and is one of the numbers
found : (test : ℕ → Bool) (a n i : ℕ) → find test (range_with_len a n) ≡ Some i → (test i ≡ true) × (i < a + n)
found test a zero i e = absurd (let x = e in cc)
found test a (suc n) i e = go (λ f. found test (a + 1) n i f) (test a) refl e
  where
    go : (find test (range_with_len (a + 1) n) ≡ Some i → (test i ≡ true) × (i < a + 1 + n)) → (t : Bool) → test a ≡ t
        → (if t then Some a else find test (range_with_len (a + 1) n)) ≡ Some i → (test i ≡ true) × (i < a + suc n)
    go on true t e = let s = same_Some a i e in (subst (λ j. test j ≡ true) s t, omega arith)
    go on false t e = let more = on e in (more.0, omega (arith, more.1))

-- if a number passes the test, one is found
some_found : (test : ℕ → Bool) (a n i : ℕ) → a ≤ i → i < a + n → test i ≡ true → is_some (find test (range_with_len a n)) ≡ true
some_found test a zero i l u e = absurd (omega arith)
some_found test a (suc n) i l u e = go (λ m. some_found test (a + 1) n i m (omega arith) e) (test a) refl (cases_eq a i)
  where
    go : (a + 1 ≤ i → is_some (find test (range_with_len (a + 1) n)) ≡ true) → (t : Bool) → test a ≡ t → (a ≡ i) ⊎ (a ≢ i)
        → is_some (if t then Some a else find test (range_with_len (a + 1) n)) ≡ true
    go on true t c = refl
    go on false t (inl h) = absurd (true≢false (sym e ∙ ap test (sym h) ∙ t))
    go on false t (inr h) = on (omega arith)

-- what `least_unseen` finds is a position where no pixel was put
unseen_found : (past : Past) (i : ℕ) → least_unseen past ≡ Some i → (is_unseen past i ≡ true) × (i < positions)
unfolding least_unseen
unseen_found past i e = found (is_unseen past) 0 64 i e

-- and there is one if no pixel was put at some position
pub unseen_some : (past : Past) (i : ℕ) → i < positions → is_unseen past i ≡ true → is_some (least_unseen past) ≡ true
unfolding least_unseen
unseen_some past i l e = some_found (is_unseen past) 0 64 i (omega arith) l e

-- a pixel is seen at its index position; or not, and it is transparent black; or neither
cases_tight : (past : Past) (p : RgbaPixel) (Goal : Type 0) → (seen past (hash p) ≡ p → Goal) → (seen past (hash p) ≢ p → p ≡ blank → Goal)
    → (seen past (hash p) ≢ p → p ≢ blank → Goal) → Goal
cases_tight past p Goal f g h = go (cases_pixel (seen past (hash p)) p) (cases_pixel p blank)
  where
    go : (seen past (hash p) ≡ p) ⊎ (seen past (hash p) ≢ p) → (p ≡ blank) ⊎ (p ≢ blank) → Goal
    go (inl is) b = f is
    go (inr n) (inl b) = g n b
    go (inr n) (inr b) = h n b

-- the choice for transparent black that isn't seen at its position, if no pixel was put at another
tight_blank : (past : Past) (p : RgbaPixel) (i : ℕ) → seen past (hash p) ≢ p → p ≡ blank → least_unseen past ≡ Some i → IsTightChoice past p (Place i)
tight_blank past p i n b e = record {
  place = λ h. absurd (n h);
  unseen = λ _ _. subst (λ o. MatchOption o (IsFirst past p (Place i)) (λ j. Place i ≡ Place j)) (sym e) refl;
  spelled = λ _ h. absurd (h b);
}

-- the choice for what isn't seen, and for transparent black if there is no such position
tight_spelled : (past : Past) (p : RgbaPixel) (c : Chunk) → seen past (hash p) ≢ p → (p ≡ blank → least_unseen past ≡ None) → IsFirst past p c
    → IsTightChoice past p c
tight_spelled past p c n none f = record {
  place = λ h. absurd (n h);
  unseen = λ _ b. subst (λ o. MatchOption o (IsFirst past p c) (λ j. c ≡ Place j)) (sym (none b)) f;
  spelled = λ _ _. f;
}

-- transparent black at an unseen position, or the first chunk if there is none
blank_some : (past : Past) (p : RgbaPixel) (first : Chunk) → IsChunk first → IsFirst past p first → seen past (hash p) ≢ p → p ≡ blank
    → (o : Option ℕ) → least_unseen past ≡ o → IsChunk (place_or o first) × IsTightChoice past p (place_or o first)
blank_some past p first is f n b None e = (is, tight_spelled past p first n (λ _. e) f)
blank_some past p first is f n b (Some i) e = ((unseen_found past i e).1, tight_blank past p i n b e)

-- a chunk is chosen for each fresh pixel
tight_some : (past : Past) (p : RgbaPixel) → IsPixel (previous past) → IsPixel p → IsChunk (chosen Tight past p) × IsTightChoice past p (chosen Tight past p)
tight_some past p before is =
    let f = first_is past p before is in
    let first : Chunk = first_chunk (previous past) p in
    let held : Bool = pixel_eq (seen past (hash p)) p in
    let other : Chunk = if pixel_eq p blank then place_or (least_unseen past) first else first in
    let P : Chunk → Type 0 = λ c. IsChunk c × IsTightChoice past p c in
    let spelled_out : seen past (hash p) ≢ p → chosen Tight past p ≡ other =
    (λ n. cond-false held (Place (hash p)) other (pixel_eq-ne (seen past (hash p)) p n)) in
    cases_tight past p (P (chosen Tight past p))
    (λ e. subst P (sym (cond-true held (Place (hash p)) other (pixel_eq-from (seen past (hash p)) p e)))
    (hash_below p, record { place = λ _. refl; unseen = λ n. absurd (n e); spelled = λ n. absurd (n e) }))
    (λ n b. subst P (sym (spelled_out n ∙ cond-true (pixel_eq p blank) (place_or (least_unseen past) first) first (pixel_eq-from p blank b)))
    (blank_some past p first f.0 f.1 n b (least_unseen past) refl))
    (λ n b. subst P (sym (spelled_out n ∙ cond-false (pixel_eq p blank) (place_or (least_unseen past) first) first (pixel_eq-ne p blank b)))
    (f.0, tight_spelled past p first n (λ e. absurd (b e)) f.1))

-- what holds of the index position where the pixel is seen, of an unseen position for transparent
-- black, and of the first chunk holds of the choice
pub by_tight : (P : Past → RgbaPixel → Chunk → Type 0) (past : Past) (p : RgbaPixel) (c : Chunk) → IsTightChoice past p c
    → (seen past (hash p) ≡ p → P past p (Place (hash p)))
    → ((i : ℕ) → seen past (hash p) ≢ p → p ≡ blank → least_unseen past ≡ Some i → P past p (Place i))
    → (seen past (hash p) ≢ p → (p ≡ blank → least_unseen past ≡ None) → IsFirst past p c → P past p c)
    → P past p c
by_tight P past p c w f g h =
    cases_tight past p (P past p c)
    (λ e. subst (P past p) (sym (w.place e)) (f e))
    (λ n b. go n b (least_unseen past) refl (w.unseen n b))
    (λ n b. h n (λ e. absurd (b e)) (w.spelled n b))
  where
    go : seen past (hash p) ≢ p → p ≡ blank → (o : Option ℕ) → least_unseen past ≡ o
        → MatchOption (least_unseen past) (IsFirst past p c) (λ i. c ≡ Place i) → P past p c
    go n b None e m = h n (λ _. e) (subst (λ o. MatchOption o (IsFirst past p c) (λ i. c ≡ Place i)) e m)
    go n b (Some i) e m =
        let is : c ≡ Place i = subst (λ o. MatchOption o (IsFirst past p c) (λ i. c ≡ Place i)) e m in
        subst (P past p) (sym is) (g i n b e)

-- the pixel is seen at an index position, or the chunk is the first
tight_is : (past : Past) (p : RgbaPixel) (c : Chunk) → IsTightChoice past p c → SeenOrFirst past p c
tight_is past p c w = by_tight SeenOrFirst past p c w (λ e. e) (λ i n b e. unseen_blank past i (unseen_found past i e).0 ∙ sym b)
    (λ n o f. by_first past p c f)

-- a pixel that isn't seen at its index position isn't given by it
pub tight_no_place : (past : Past) (p : RgbaPixel) (c : Chunk) → seen past (hash p) ≢ p → IsTightChoice past p c → names (Some c) (hash p) ≡ false
tight_no_place past p (Place i) differs w = ne_eqb i (hash p) (λ at. differs (ap (seen past) (sym at) ∙ tight_is past p (Place i) w))
tight_no_place past p c differs w = refl

-- if transparent black isn't seen at its own index position, it is seen just where no pixel was put
blank_unseen : (past : Past) (i : ℕ) → seen past (hash blank) ≢ blank → pixel_eq (seen past i) blank ≡ is_unseen past i
blank_unseen past i differs = go (is_unseen past i) refl
  where
    put_there : (is_unseen past i ≡ true) ⊎ (hash (seen past i) ≡ i) → is_unseen past i ≡ false → seen past i ≢ blank
    put_there (inl e) f b = true≢false (sym e ∙ f)
    put_there (inr h) f b = differs (ap (seen past) (ap hash (sym b) ∙ h) ∙ b)

    go : (t : Bool) → is_unseen past i ≡ t → pixel_eq (seen past i) blank ≡ t
    go true e = pixel_eq-from (seen past i) blank (unseen_blank past i e)
    go false e = pixel_eq-ne (seen past i) blank (put_there (unseen_or past i) e)

-- so the first such position is the least where no pixel was put
first_unseen : (past : Past) (p : RgbaPixel) → p ≡ blank → seen past (hash p) ≢ p → first_blank past ≡ least_unseen past
unfolding first_blank least_unseen
first_unseen past p b n = λ i. find (λ j. blank_unseen past j (λ e. n (ap (λ q. seen past (hash q)) b ∙ e ∙ sym b)) i) (range_with_len 0 positions)

-- it is the choice for transparent black that isn't seen at its position
pub blank_chosen : (past : Past) (p : RgbaPixel) (i : ℕ) → p ≡ blank → seen past (hash p) ≢ p → Some i ≡ first_blank past → IsTightChoice past p (Place i)
blank_chosen past p i b n found = tight_blank past p i n b (sym (found ∙ first_unseen past p b n))

-- if there is none, and for other pixels that aren't seen, the choice is the first chunk that
-- spells them out
pub spelled_chosen : (past : Past) (p : RgbaPixel) (c : Chunk) → seen past (hash p) ≢ p → (p ≡ blank → None ≡ first_blank past) → IsFirst past p c
    → IsTightChoice past p c
spelled_chosen past p c n none f = tight_spelled past p c n (λ b. sym (none b ∙ first_unseen past p b n)) f

-- it is unique
tight_unique : (past : Past) (p : RgbaPixel) (c d : Chunk) → IsChunk c → IsChunk d → IsTightChoice past p c → IsTightChoice past p d → c ≡ d
tight_unique past p c d ic id w v =
    cases_tight past p (c ≡ d)
    (λ e. w.place e ∙ sym (v.place e))
    (λ n b. go (least_unseen past) (w.unseen n b) (v.unseen n b))
    (λ n b. first_unique past p c d ic id (w.spelled n b) (v.spelled n b))
  where
    go : (o : Option ℕ) → MatchOption o (IsFirst past p c) (λ i. c ≡ Place i) → MatchOption o (IsFirst past p d) (λ i. d ≡ Place i) → c ≡ d
    go None f g = first_unique past p c d ic id f g
    go (Some i) f g = f ∙ sym g

-- the tight choice has what a choice has to offer
pub tight_chooses : Chooses IsTightChoice (chosen Tight)
tight_chooses = record { some = tight_some; only = tight_unique; is = tight_is }
