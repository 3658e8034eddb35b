-- Steps through a chunk list: runs and other chunks, the pixels in order, lengths, and lists joined end
-- to end.
use Rattle.std.proofs.Common.{◌≡◌, ◌<◌, ◌≤◌, List, [], ◌∷◌, ◌++◌, length, reverse, arith, ap, ◌∙◌, append-nil, ◌⊎◌, inl, inr, ℕ, zero, suc, ◌+◌, false, replicate, refl, sym, append_assoc, true≢false}
use Rattle.std.proofs.lemmas.List.{length-replicate, length-reverse, reverse-append, reverse-reverse, length-append, replicate-append-replicate}
use Rattle.std.proofs.lemmas.Grind.{flat_map-append}
use Rattle.std.specs.List.{AllByRecursion}
use Rattle.qoi.specs.Qoi.{Chunk, Place, Run, bytes_of, chunk_bytes, then_chunks, meaning, RgbaPixel, Past, previous, IsChunk, pixel_after, times, then_chunk, Each}
use Rattle.qoi.specs.Written.{GivesFresh, IsAllowedAfter, IsFullBefore}
use Rattle.qoi.specs.Styles.{is_run}

-- a chunk has one byte to five
pub length-bytes_of : (c : Chunk) → (0 < length (bytes_of c)) × (length (bytes_of c) ≤ 5)
length-bytes_of (Place i) = (omega arith, omega arith)
length-bytes_of c = (omega arith, omega arith)

-- what holds throughout two lists holds throughout both joined
pub all_append : {A : Type 0} (P : A → Type 0) (xs ys : List A) → AllByRecursion P xs → AllByRecursion P ys → AllByRecursion P (xs ++ ys)
all_append P [] ys h k = k
all_append P (x ∷ xs) ys h k = (h.0, all_append P xs ys h.1 k)

-- what holds throughout both joined holds throughout the second
pub all_back : {A : Type 0} (P : A → Type 0) (xs ys : List A) → AllByRecursion P (xs ++ ys) → AllByRecursion P ys
all_back P [] ys h = h
all_back P (x ∷ xs) ys h = all_back P xs ys h.1

-- in reverse too
pub all_reverse : {A : Type 0} (P : A → Type 0) (xs : List A) → AllByRecursion P xs → AllByRecursion P (reverse xs)
all_reverse P [] h = tt
all_reverse P (x ∷ xs) h = rw (reverse-append (x ∷ []) xs) (all_append P (reverse xs) (x ∷ []) (all_reverse P xs h.1) (h.0, tt))

-- the bytes of chunks and one more
pub chunk_bytes-last : (cs : List Chunk) (c : Chunk) → chunk_bytes (cs ++ c ∷ []) ≡ chunk_bytes cs ++ bytes_of c
chunk_bytes-last cs c = flat_map-append bytes_of cs (c ∷ []) ∙ ap (λ z. chunk_bytes cs ++ z) (append-nil (bytes_of c))

-- `meaning` has as many pixels as `then_chunks`
pub length-meaning : (cs : List Chunk) → length (meaning cs) ≡ length (then_chunks [] cs)
length-meaning cs = length-reverse (then_chunks [] cs)

-- a chunk is a run or not
pub cases_run : (c : Chunk) → ((n : ℕ) × (c ≡ Run n)) ⊎ (is_run c ≡ false)
cases_run (Run n) = inl (n, refl)
cases_run c = inr refl

-- a chunk other than a run gives one pixel
pub times_other : (c : Chunk) → is_run c ≡ false → times c ≡ 1
times_other (Run n) h = absurd (true≢false h)
times_other c h = refl

-- an allowed chunk other than a run gives a fresh pixel
pub right_other : (Choice : Past → RgbaPixel → Chunk → Type 0) (past : Past) (c : Chunk) → is_run c ≡ false → IsAllowedAfter Choice past c
    → GivesFresh Choice past c
right_other Choice past (Run n) h r = absurd (true≢false h)
right_other Choice past c h r = r

-- and a chunk that does is allowed
pub right_from : (Choice : Past → RgbaPixel → Chunk → Type 0) (past : Past) (c : Chunk) → GivesFresh Choice past c → IsAllowedAfter Choice past c
right_from Choice past (Run n) g = tt
right_from Choice past c g = g

-- anything may follow a chunk other than a run
pub full_other : (c : Chunk) (cs : List Chunk) → is_run c ≡ false → IsFullBefore c cs
full_other (Run n) cs h = absurd (true≢false h)
full_other c cs h = tt

-- a chunk other than a run may follow any chunk
pub full_before : (c d : Chunk) (cs : List Chunk) → is_run d ≡ false → IsFullBefore c (d ∷ cs)
full_before (Run n) (Run m) cs h = absurd (true≢false h)
full_before c d cs h = tt

-- each chunk gives at least one pixel
pub times_some : (c : Chunk) → IsChunk c → 0 < times c
times_some (Run n) h = h.0
times_some c h = omega arith

-- the pixel before is the same after repeats
pub previous_repeats : (n : ℕ) (past : Past) → previous (replicate n (previous past) ++ past) ≡ previous past
previous_repeats zero past = refl
previous_repeats (suc n) past = refl

-- what stands after a chunk other than a run
pub then_other : (past : Past) (c : Chunk) → is_run c ≡ false → then_chunk past c ≡ pixel_after past c ∷ past
then_other past c h = rw (times_other c h) refl

-- the pixels that the chunks give after these, in order
abbrev pub given : Past → List Chunk → List RgbaPixel
given past [] = []
given past (c ∷ cs) = replicate (times c) (pixel_after past c) ++ given (then_chunk past c) cs

-- one pixel many times is the same in reverse
pub reverse-replicate : {A : Type 0} (n : ℕ) (a : A) → reverse (replicate n a) ≡ replicate n a
reverse-replicate zero a = refl
reverse-replicate (suc n) a =
    reverse-append (a ∷ []) (replicate n a)
    ∙ ap (λ r. r ++ a ∷ []) (reverse-replicate n a)
    ∙ replicate-append-replicate n 1 a
    ∙ ap (λ k. replicate k a) (let e : n + 1 ≡ suc n = omega arith in e)

-- the pixels after chunks are those before them and those given
pub then_chunks_given : (past : Past) (cs : List Chunk) → then_chunks past cs ≡ reverse (given past cs) ++ past
then_chunks_given past [] = refl
then_chunks_given past (c ∷ cs) =
    then_chunks_given (then_chunk past c) cs
    ∙ simp (reverse-append, reverse-replicate, append_assoc)

-- what a chunk list means is what it gives at the start
pub meaning_given : (cs : List Chunk) → meaning cs ≡ given [] cs
meaning_given cs = ap reverse (then_chunks_given [] cs) ∙ simp (append-nil, reverse-reverse)

-- the pixels after a chunk are those before it and its own
pub length-then_chunk : (past : Past) (c : Chunk) → length (then_chunk past c) ≡ times c + length past
length-then_chunk past c = omega (arith, length-append (replicate (times c) (pixel_after past c)) past, length-replicate (times c) (pixel_after past c))

-- there are as many pixels as are given, and those before
pub length-then_chunks : (past : Past) (cs : List Chunk) → length (then_chunks past cs) ≡ length (given past cs) + length past
length-then_chunks past cs = rw (then_chunks_given past cs) (simp (length-append, length-reverse))

-- chunks after chunks
pub then_chunks-append : (past : Past) (cs ds : List Chunk) → then_chunks past (cs ++ ds) ≡ then_chunks (then_chunks past cs) ds
then_chunks-append past [] ds = refl
then_chunks-append past (c ∷ cs) ds = then_chunks-append (then_chunk past c) cs ds

-- what holds of each chunk of two lists holds in the joined list
pub each_append : (P : Past → Chunk → Type 0) (past : Past) (cs ds : List Chunk) → Each P past cs → Each P (then_chunks past cs) ds → Each P past (cs ++ ds)
each_append P past [] ds h k = k
each_append P past (c ∷ cs) ds h k = (h.0, each_append P (then_chunk past c) cs ds h.1 k)

-- and back, for the second list
pub each_back : (P : Past → Chunk → Type 0) (past : Past) (cs ds : List Chunk) → Each P past (cs ++ ds) → Each P (then_chunks past cs) ds
each_back P past [] ds h = h
each_back P past (c ∷ cs) ds h = each_back P (then_chunk past c) cs ds h.1

-- m of one pixel and then n more of it are m + n together
pub repeats_after : (m n : ℕ) (q : RgbaPixel) (past : Past) → replicate m q ++ (replicate n q ++ past) ≡ replicate (m + n) q ++ past
repeats_after m n q past = sym (append_assoc (replicate m q) (replicate n q) past) ∙ ap (λ x. x ++ past) (replicate-append-replicate m n q)
