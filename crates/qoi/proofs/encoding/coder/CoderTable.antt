-- The table of a coder, and the chunk that is chosen by it.
use Rattle.std.proofs.Common.{◌≡◌, ◌≢◌, ◌↔◌, ◌⊎◌, inl, inr, ℕ, zero, suc, ◌%◌, ◌<◌, Bool, true, false, IsTrue, IsFalse, nat_lt, arith, if◌then◌else◌, List, [], ◌∷◌, ◌++◌, take, replicate, Some, refl, sym, ap, ◌∙◌, subst}
use lib.Lanes.{digits_l}
use Rattle.std.proofs.lemmas.Bool.{eq-eqb, lt-ltb}
use Rattle.qoi.specs.Qoi.{Chunk, Place, RgbaPixel, Past, previous, hash, IsChunk, bytes_of, seen}
use Rattle.qoi.specs.Written.{fresh, IsFirst}
use Rattle.qoi.specs.Styles.{Style, Reference, Places, Tight, names, choice_in}
use Rattle.qoi.specs.inner.Coder.{put_in}
use Rattle.qoi.specs.inner.Table.{Holds}
use Rattle.qoi.specs.inner.block.Storing.{chunk_of}
use Rattle.qoi.proofs.format.ChunkSteps.{previous_repeats}
use Rattle.qoi.proofs.format.SamePixels.{hash_below}
use Rattle.qoi.proofs.format.SeenTable.{holds_copies}
use Rattle.qoi.proofs.encoding.lists.NotedPixels.{fresh_repeat, fresh_more}
use Rattle.qoi.proofs.encoding.styles.TightChoice.{tight_no_place}
use Rattle.qoi.proofs.encoding.lists.WrittenExists.{spells_no_place}

-- the bytes of an index position
pub place_bytes : (i alpha : ℕ) → i < 64 → take 1 (digits_l 256 4 i ++ alpha ∷ []) ≡ i ∷ []
place_bytes i alpha l = λ j. small i l j ∷ []
  where
    small : (i : ℕ) → i < 64 → i % 256 ≡ i
    small i l = omega arith

-- a fresh pixel that stands at its index position is given by it
pub place_chosen : (style : Style) (past : Past) (p : RgbaPixel) → seen (put_in style past) (hash p) ≡ p → choice_in style past p (Place (hash p))
place_chosen Tight past p is = record { place = λ _. refl; unseen = λ other. absurd (other is); spelled = λ other. absurd (other is) }
place_chosen style past p is = record { place = λ _. refl; spelled = λ other. absurd (other is) }

-- in styles Reference and Places any other is spelled out
pub spelled_out : (style : Style) (past : Past) (p : RgbaPixel) (c : Chunk) → (style ≡ Reference) ⊎ (style ≡ Places) → IsFirst past p c
    → seen (put_in style past) (hash p) ≢ p → choice_in style past p c
spelled_out style past p c (inl is) first differs = let d = rw is at differs in rw is (record { place = λ e. absurd (d e); spelled = λ _. first })
spelled_out style past p c (inr is) first differs = let d = rw is at differs in rw is (record { place = λ e. absurd (d e); spelled = λ _. first })

-- any other isn't given by its index position
other_place : (style : Style) (past : Past) (p : RgbaPixel) (c : Chunk) → seen (put_in style past) (hash p) ≢ p → choice_in style past p c
    → names (Some c) (hash p) ≡ false
other_place Tight past p c differs w = tight_no_place past p c differs w
other_place style past p c differs w = spells_no_place c (hash p) (w.spelled differs).spells

module _ (style : Style) (past : Past) (px at : RgbaPixel) (i : ℕ) (place : i ≡ hash px) (is : at ≡ seen (put_in style past) i) where
  -- what stands there
  there : at ≡ seen (put_in style past) (hash px)
  there = is ∙ ap (seen (put_in style past)) place

  -- not px
  not_there : (IsTrue false ↔ (at ≡ px)) → seen (put_in style past) (hash px) ≢ px
  not_there test e = absurd (let no : false ≡ true = test.1 (there ∙ e) in cc)

  -- The chosen chunk is the index position or another one, as the test says; it names the position
  -- exactly if the pixel stands there.
  pub fresh_chosen : (same : Bool) (alpha number size : ℕ) → (IsTrue same ↔ (at ≡ px))
      → (seen (put_in style past) (hash px) ≢ px → (d : Chunk) × IsChunk d × (chunk_of size number alpha ≡ bytes_of d) × choice_in style past px d)
      → (d : Chunk) × IsChunk d × (chunk_of (if same then 1 else size) (if same then i else number) alpha ≡ bytes_of d) × choice_in style past px d
      × (same ≡ names (Some d) (hash px))
  fresh_chosen true alpha number size test other =
      let below : i < 64 = omega (arith, place, hash_below px) in
      (Place i, below, place_bytes i alpha below, rw place (place_chosen style past px (sym there ∙ test.0 refl)), sym (eq-eqb i (hash px) place))
  fresh_chosen false alpha number size test other =
      let o = other (not_there test) in
      (o.0, o.1, o.2, o.3, sym (other_place style past px o.0 (not_there test) o.3))

-- a fresh pixel is put in each style
pub fresh_held_in : (style : Style) (past : Past) (p : RgbaPixel) → p ≢ previous past → put_in style (p ∷ past) ≡ p ∷ put_in style past
fresh_held_in Tight past p n = refl
fresh_held_in style past p n = fresh_more past p n

-- at its index position
pub fresh_held : (style : Style) (past : Past) (old table : List RgbaPixel) (px : RgbaPixel) → px ≢ previous past → Holds old (put_in style past)
    → ((held : Past) → Holds old held → Holds table (px ∷ held)) → Holds table (put_in style (px ∷ past))
fresh_held style past old table px differs s puts =
    subst (λ x. Holds table x) (sym (fresh_held_in style past px differs)) (puts (put_in style past) s)

-- repeats are none of the fresh pixels
pub fresh_repeats : (k : ℕ) (past : Past) → fresh (replicate k (previous past) ++ past) ≡ fresh past
fresh_repeats zero past = refl
fresh_repeats (suc k) past = fresh_repeat (replicate k (previous past) ++ past) (previous past) (sym (previous_repeats k past)) ∙ fresh_repeats k past

-- repeats that aren't put, if the fresh pixels alone are
pub repeats_unput : (style : Style) (n : ℕ) (past : Past) (table : List RgbaPixel) → (style ≡ Reference) ⊎ (style ≡ Places)
    → Holds table (put_in style past) → Holds table (put_in style (replicate n (previous past) ++ past))
repeats_unput style n past table (inl is) s = rw (is, fresh_repeats n past) (rw is at s)
repeats_unput style n past table (inr is) s = rw (is, fresh_repeats n past) (rw is at s)

-- repeats that are put, if there are any, in style Tight
pub repeats_put : (n : ℕ) (past : Past) (old table : List RgbaPixel)
    → (IsTrue (nat_lt 0 n) → (held : Past) → Holds old held → Holds table (previous past ∷ held)) → (IsFalse (nat_lt 0 n) → table ≡ old)
    → Holds old past → Holds table (replicate n (previous past) ++ past)
repeats_put zero past old table puts stays s = subst (λ t. Holds t past) (sym (stays refl)) s
repeats_put (suc n) past old table puts stays s =
    let some : 0 < suc n = omega arith in
    holds_copies table (previous past) past (suc n) some (puts (lt-ltb 0 (suc n) some) past s)
