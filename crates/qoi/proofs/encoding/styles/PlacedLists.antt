-- The list in style Places: it means the same in as many bytes, and names no index position twice
-- in a row.
use Rattle.std.proofs.Common.{◌≡◌, ℕ, Bool, true, false, not, ◌&&◌, ◌==◌, if◌then◌else◌, List, [], ◌∷◌, ◌++◌, length, drop, Option, Some, refl, sym, ap, ◌∙◌, subst, arith, length-append}
use Rattle.std.proofs.lemmas.Bool.{and_parts, cond_both, eqb-true, eq-eqb, true≢false}
use Rattle.qoi.specs.Qoi.{Chunk, Place, Run, RgbaPixel, Past, previous, seen, hash, IsChunk, AreChunks, bytes_of, chunk_bytes, then_chunk, then_chunks, Each}
use Rattle.qoi.specs.Written.{IsAllowedAfter}
use Rattle.qoi.specs.Regular.{NamesPixelThere}
use Rattle.qoi.specs.Styles.{fresh_next, some_fresh, names, is_placed, place_for, placed_after}
use Rattle.qoi.proofs.format.SamePixels.{hash_below}
use Rattle.qoi.proofs.encoding.lists.NotedPixels.{seen_same}
use Rattle.qoi.proofs.encoding.lists.WrittenShape.{seen_again}
use Rattle.qoi.proofs.encoding.lists.WrittenOnce.{same_first}

-- What a run that is placed stands between.
record Placed (past : Past) (before : Option Chunk) (n : ℕ) (cs : List Chunk) : Type 0 where
  single : n ≡ 1
  next : fresh_next cs ≡ true
  some : some_fresh past ≡ true
  other : not (names before (hash (previous past))) ≡ true

-- by its test
parts : (past : Past) (before : Option Chunk) (n : ℕ) (cs : List Chunk) → is_placed past before n cs ≡ true → Placed past before n cs
parts past before n cs e =
    let x = and_parts (n == 1 && fresh_next cs && some_fresh past) (not (names before (hash (previous past)))) e in
    let y = and_parts (n == 1 && fresh_next cs) (some_fresh past) x.0 in
    let z = and_parts (n == 1) (fresh_next cs) y.0 in
    record { single = eqb-true n 1 z.0; next = z.1; some = y.1; other = x.1 }

-- if some pixel is fresh, the last one is seen at its index position
pub seen_last : (past : Past) → some_fresh past ≡ true → seen past (hash (previous past)) ≡ previous past
seen_last [] e = absurd (true≢false (sym e))
seen_last (p ∷ past) e = seen_same past p (hash p) refl

-- P relates a chunk to its `place_for` if it relates each chunk to itself, and Run 1 to the last
-- pixel's position
by_place : (P : Chunk → Chunk → Type 0) (past : Past) (before : Option Chunk) (c : Chunk) (cs : List Chunk)
    → ((d : Chunk) → P d d)
    → (seen past (hash (previous past)) ≡ previous past → P (Run 1) (Place (hash (previous past))))
    → P c (place_for past before c cs)
by_place P past before (Run n) cs same place = cond_both (is_placed past before n cs) (Place (hash (previous past))) (Run n) (λ d. P (Run n) d)
    (λ e.
    let w = parts past before n cs e in
    subst (λ k. P (Run k) (Place (hash (previous past)))) (sym w.single) (place (seen_last past w.some)))
    (λ e. same (Run n))
by_place P past before c cs same place = same c

-- its chunks are chunks
pub placed_chunks : (past : Past) (before : Option Chunk) (cs : List Chunk) → AreChunks cs → AreChunks (placed_after past before cs)
placed_chunks past before [] h = tt
placed_chunks past before (c ∷ cs) h = (
  by_place (λ c d. IsChunk c → IsChunk d) past before c cs (λ d k. k) (λ _ k. hash_below (previous past)) h.0,
  placed_chunks (then_chunk past c) (Some c) cs h.1,
)

-- a chunk gives the same pixels
same_pixels : (past : Past) (before : Option Chunk) (c : Chunk) (cs : List Chunk) → then_chunk past (place_for past before c cs) ≡ then_chunk past c
same_pixels past before c cs = by_place (λ c d. then_chunk past d ≡ then_chunk past c) past before c cs (λ d. refl) (λ e. ap (λ p. p ∷ past) e)

-- and so does the list
pub placed_then : (past : Past) (before : Option Chunk) (cs : List Chunk) → then_chunks past (placed_after past before cs) ≡ then_chunks past cs
placed_then past before [] = refl
placed_then past before (c ∷ cs) =
    ap (λ x. then_chunks x (placed_after (then_chunk past c) (Some c) cs)) (same_pixels past before c cs)
    ∙ placed_then (then_chunk past c) (Some c) cs

-- in as many bytes
pub placed_length : (past : Past) (before : Option Chunk) (cs : List Chunk) → length (chunk_bytes (placed_after past before cs)) ≡ length (chunk_bytes cs)
placed_length past before [] = refl
placed_length past before (c ∷ cs) =
    let one = by_place (λ c d. length (bytes_of d) ≡ length (bytes_of c)) past before c cs (λ d. refl) (λ _. refl) in
    let more = placed_length (then_chunk past c) (Some c) cs in
    omega (
      arith,
      length-append (bytes_of (place_for past before c cs)) (chunk_bytes (placed_after (then_chunk past c) (Some c) cs)),
      length-append (bytes_of c) (chunk_bytes cs),
    )

-- it is regular if the list is
pub placed_regular : (past : Past) (before : Option Chunk) (cs : List Chunk) → Each NamesPixelThere past cs
    → Each NamesPixelThere past (placed_after past before cs)
placed_regular past before [] h = tt
placed_regular past before (c ∷ cs) h = (
  by_place (λ c d. NamesPixelThere past c → NamesPixelThere past d) past before c cs (λ d k. k) (λ e _. ap hash e) h.0,
  subst (λ x. Each NamesPixelThere x (placed_after (then_chunk past c) (Some c) cs)) (sym (same_pixels past before c cs))
      (placed_regular (then_chunk past c) (Some c) cs h.1),
)

-- a chunk that is given by the index position i is that position, or a single run of its pixel
abbrev Named : Past → Option Chunk → List Chunk → ℕ → Chunk → Type 0
Named past before cs i (Place j) = j ≡ i
Named past before cs i (Run n) = Placed past before n cs × (hash (previous past) ≡ i)
Named past before cs i c = ⊥

-- the index position that a chunk names
abbrev position : Chunk → ℕ
position (Place i) = i
position _ = 0

named : (past : Past) (before : Option Chunk) (c : Chunk) (cs : List Chunk) (i : ℕ) → place_for past before c cs ≡ Place i → Named past before cs i c
named past before (Run n) cs i e = go (is_placed past before n cs) refl e
  where
    go : (t : Bool) → is_placed past before n cs ≡ t → (if t then Place (hash (previous past)) else Run n) ≡ Place i → Named past before cs i (Run n)
    go true is e = (parts past before n cs is, ap position e)
    go false is e = absurd (let x = e in cc)
named past before (Place j) cs i e = ap position e
named past before c cs i e = absurd (let x = e in cc)

-- after a single run its pixel's index position holds the last pixel
repeated : (past : Past) (n : ℕ) (i : ℕ) → n ≡ 1 → hash (previous past) ≡ i → seen (then_chunk past (Run n)) i ≡ previous (then_chunk past (Run n))
repeated past n i one at = rw one (seen_same past (previous past) i at)

-- two neighbours aren't given by one index position
apart_first : (Choice : Past → RgbaPixel → Chunk → Type 0) (past : Past) (before : Option Chunk) (c d : Chunk) (cs : List Chunk) (i : ℕ)
    → IsAllowedAfter Choice (then_chunk past c) d → Named past before (d ∷ cs) i c → Named (then_chunk past c) (Some c) cs i d → ⊥
apart_first Choice past before (Place j) (Place k) cs i right e f = right.is_fresh (ap (λ x. seen (seen past j ∷ past) x) (f ∙ sym e) ∙ seen_again past j)
apart_first Choice past before (Place j) (Run n) cs i right e f = true≢false (sym f.0.other ∙ ap not (eq-eqb j (hash (previous (seen past j ∷ past))) (e ∙ sym f.1)))
apart_first Choice past before (Run n) (Place k) cs i right e f =
    right.is_fresh (ap (seen (then_chunk past (Run n))) f ∙ repeated past n i e.0.single e.1)
apart_first Choice past before (Run n) (Run m) cs i right e f = true≢false (sym e.0.next)
apart_first Choice past before (Place j) d cs i right e f = f
apart_first Choice past before (Run n) d cs i right e f = f
apart_first Choice past before c d cs i right e f = e

-- so it is throughout the list
pub placed_apart : (Choice : Past → RgbaPixel → Chunk → Type 0) (past : Past) (before : Option Chunk) (cs front rest : List Chunk) (i : ℕ)
    → Each (IsAllowedAfter Choice) past cs → placed_after past before cs ≡ front ++ Place i ∷ Place i ∷ rest → ⊥
placed_apart Choice past before [] [] rest i right e = absurd (let x = e in cc)
placed_apart Choice past before [] (x ∷ front) rest i right e = absurd (let x = e in cc)
placed_apart Choice past before (c ∷ cs) (x ∷ front) rest i right e =
    placed_apart Choice (then_chunk past c) (Some c) cs front rest i right.1 (ap (drop 1) e)
placed_apart Choice past before (c ∷ []) [] rest i right e = absurd (let x = e in cc)
placed_apart Choice past before (c ∷ d ∷ cs) [] rest i right e =
    apart_first Choice past before c d cs i right.1.0 (named past before c (d ∷ cs) i (same_first _ _ _ _ e))
    (named (then_chunk past c) (Some c) d cs i (same_first _ _ _ _ (ap (drop 1) e)))
