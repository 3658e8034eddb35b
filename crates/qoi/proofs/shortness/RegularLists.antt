-- The written list is regular, and so is each list of an image without transparent black.
use Rattle.std.proofs.Common.{◌≡◌, ◌≢◌, inl, inr, ◌+◌, ◌<◌, ◌≤◌, List, [], ◌∷◌, ◌++◌, length, reverse, sym, ap, ◌∙◌, subst, arith}
use Rattle.std.specs.List.{AllByRecursion}
use Rattle.std.proofs.lemmas.List.{length-append, length-reverse, reverse-append, reverse-reverse}
use Rattle.qoi.specs.Qoi.{Chunk, Place, RgbaPixel, Past, blank, seen, hash, then_chunk, then_chunks, Each, Reaches}
use Rattle.qoi.specs.Written.{noted, IsChoice, IsAllowedAfter, Written}
use Rattle.qoi.specs.Regular.{NamesPixelThere, Regular, Covers}
use Rattle.qoi.proofs.format.SamePixels.{cases_pixel}
use Rattle.qoi.proofs.format.ChunkSteps.{given, then_chunks_given, all_back, all_reverse}
use Rattle.qoi.proofs.encoding.styles.TightChoice.{unseen_blank, unseen_or}

-- an index position that an allowed chunk names is its pixel's
right_named : (past : Past) (c : Chunk) → IsAllowedAfter IsChoice past c → NamesPixelThere past c
right_named past (Place i) r = elim (cases_pixel (noted past (hash (seen past i))) (seen past i)) as (λ _. hash (seen past i) ≡ i) [
  | inl e ↦ let s = r.is_chosen.place e in cc
  | inr n ↦ let s = (r.is_chosen.spelled n).spells in absurd (omega arith)
]
right_named past c r = tt

-- what follows from P holds of each chunk if P does
each_map : (P Q : Past → Chunk → Type 0) → ((past : Past) (c : Chunk) → P past c → Q past c) → (past : Past) (cs : List Chunk) → Each P past cs → Each Q past cs
each_map P Q f past [] h = tt
each_map P Q f past (c ∷ cs) h = (f past c h.0, each_map P Q f (then_chunk past c) cs h.1)

-- the written list is regular
pub written_regular : (image : List RgbaPixel) (cs : List Chunk) → Written image cs → Regular cs
written_regular image cs w = each_map (IsAllowedAfter IsChoice) NamesPixelThere right_named [] cs w.allowed

-- what holds throughout an end of a list holds throughout any end not longer than it
suffix_all : {A : Type 0} (P : A → Type 0) (xs ys us vs : List A) → xs ++ ys ≡ us ++ vs → length ys ≤ length vs → AllByRecursion P vs → AllByRecursion P ys
suffix_all P xs ys [] vs e l h = all_back P xs ys (rw (← e) at h)
suffix_all P [] ys (u ∷ us) vs e l h =
    let k : length ys ≡ length (u ∷ us) + length vs = ap length e ∙ length-append (u ∷ us) vs in
    absurd (omega arith)
suffix_all P (x ∷ xs) ys (u ∷ us) vs e l h = suffix_all P xs ys us vs (cc) l h

-- an index position named within an image without transparent black holds a pixel of that position
named_within : (past : Past) (c : Chunk) (cs : List Chunk) (us vs : List RgbaPixel) → then_chunks (then_chunk past c) cs ≡ us ++ vs → length past < length vs
    → AllByRecursion (λ p. p ≢ blank) vs → NamesPixelThere past c
named_within past (Place i) cs us vs e l h =
    let s = suffix_all (λ p. p ≢ blank) (reverse (given (seen past i ∷ past) cs)) (seen past i ∷ past) us vs
    (sym (then_chunks_given (seen past i ∷ past) cs) ∙ e) (omega arith) h in
    elim (unseen_or past i) as (λ _. hash (seen past i) ≡ i) [
      | inl e ↦ absurd (s.0 (unseen_blank past i e))
      | inr e ↦ e
    ]
named_within past c cs us vs e l h = tt

-- so do all that chunks name
all_named : (past : Past) (cs : List Chunk) (us vs : List RgbaPixel) → then_chunks past cs ≡ us ++ vs → Each (λ past c. length past < length vs) past cs
    → AllByRecursion (λ p. p ≢ blank) vs → Each NamesPixelThere past cs
all_named past [] us vs e l h = tt
all_named past (c ∷ cs) us vs e l h = (named_within past c cs us vs e l.0 h, all_named (then_chunk past c) cs us vs e l.1 h)

-- a list of an image without transparent black is regular
pub no_blank_regular : (image : List RgbaPixel) (cs : List Chunk) → Reaches (length image) cs → Covers image cs
    → AllByRecursion (λ p. p ≢ blank) image → Regular cs
no_blank_regular image cs r (chunks, more, b) h =
    let e : then_chunks [] cs ≡ reverse more ++ reverse image = sym (reverse-reverse (then_chunks [] cs)) ∙ ap reverse b ∙ reverse-append image more in
    let l : length image ≡ length (reverse image) = sym (length-reverse image) in
    all_named [] cs (reverse more) (reverse image) e (subst (λ n. Each (λ past c. length past < n) [] cs) l r.stays_below)
    (all_reverse (λ p. p ≢ blank) image h)
