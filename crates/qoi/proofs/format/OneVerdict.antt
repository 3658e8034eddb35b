-- No chunk's bytes begin another's. So at most one verdict holds of any bytes, with one chunk list.
use Rattle.std.proofs.Common.{◌≡◌, ℕ, ◌+◌, ◌<◌, ◌≤◌, ◌⊎◌, inl, inr, List, [], ◌∷◌, ◌++◌, length, get_or, take, drop, arith, refl, ap, sym, ◌∙◌, subst, append_assoc, length-append}
use Rattle.std.proofs.lemmas.List.{append-nil, append_cancel_left, drop_at, take_at}
use Rattle.qoi.specs.Qoi.{Chunk, Place, Diff, Luma, Run, Rgb, Rgba, Past, IsChunk, AreChunks, bytes_of, chunk_bytes, then_chunk, Each, then_chunks, meaning, end_marker}
use Rattle.qoi.specs.Verdicts.{IsPartOfChunk, HasChunks, IsWhole, IsCut, IsWrong}
use Rattle.qoi.proofs.format.ChunkSteps.{length-meaning}

-- equal bytes begin with the same chunk, and go on the same
pub chunks_apart : (c d : Chunk) (x y : List ℕ) → IsChunk c → IsChunk d → bytes_of c ++ x ≡ bytes_of d ++ y → (c ≡ d) × (x ≡ y)
chunks_apart (Place i) (Place j) x y hc hd e = (cc, cc)
chunks_apart (Diff i) (Diff j) x y hc hd e = (cc, cc)
chunks_apart (Luma i j) (Luma k l) x y hc hd e = (cc, cc)
chunks_apart (Run n) (Run m) x y hc hd e =
    let f : 191 + n ≡ 191 + m = ap (λ l. get_or l 0 0) e in
    let g : n ≡ m = omega arith in
    (ap Run g, cc)
chunks_apart (Rgb r g b) (Rgb s h c) x y hc hd e = (cc, cc)
chunks_apart (Rgba r g b a) (Rgba s h c d) x y hc hd e = (cc, cc)
chunks_apart c d x y hc hd e = let f = ap (λ l. get_or l 0 0) e in absurd (omega arith)

-- a beginning of a chunk's bytes, at least one byte short, begins with no whole chunk
pub part_begins_none : (c : Chunk) (x : List ℕ) → IsChunk c → IsPartOfChunk (bytes_of c ++ x) → ⊥
part_begins_none c x hc (d, next, more, hd, e) =
    let f : bytes_of c ++ (x ++ next ∷ more) ≡ bytes_of d ++ [] = sym (append_assoc (bytes_of c) x (next ∷ more)) ∙ sym e ∙ sym (append-nil (bytes_of d)) in
    let both = chunks_apart c d (x ++ next ∷ more) [] hc hd f in
    omega (arith, length-append x (next ∷ more), ap length both.1)

-- fewer than n pixels stand before each chunk, if these pixels stand before the first one
abbrev pub StayBelowAfter : ℕ → Past → List Chunk → Type 0
StayBelowAfter n past cs = Each (λ q c. length q < n) past cs

-- reading chunks ends here: n pixels are reached, or no whole chunk is left
abbrev pub EndsChunks : ℕ → Past → List ℕ → Type 0
EndsChunks n past rest = (n ≤ length past) ⊎ ((length past < n) × IsPartOfChunk rest)

-- when reading ends, no further chunk follows
ends_without_chunk : (n : ℕ) (past : Past) (d : Chunk) (x y : List ℕ) → IsChunk d → length past < n → EndsChunks n past x → x ≡ bytes_of d ++ y → ⊥
ends_without_chunk n past d x y hd short (inl enough) e = omega arith
ends_without_chunk n past d x y hd short (inr part) e = part_begins_none d y hd (subst IsPartOfChunk e part.1)

-- from any pixels on, two readings of the same bytes are one
one_takes_after : (n : ℕ) (past : Past) (cs ds : List Chunk) (x y : List ℕ) → AreChunks cs → AreChunks ds
    → StayBelowAfter n past cs → StayBelowAfter n past ds
    → EndsChunks n (then_chunks past cs) x → EndsChunks n (then_chunks past ds) y
    → chunk_bytes cs ++ x ≡ chunk_bytes ds ++ y → (cs ≡ ds) × (x ≡ y)
one_takes_after n past [] [] x y hc hd bc bd ec ed e = (refl, e)
one_takes_after n past [] (d ∷ ds) x y hc hd bc bd ec ed e =
    absurd (ends_without_chunk n past d x (chunk_bytes ds ++ y) hd.0 bd.0 ec (e ∙ append_assoc (bytes_of d) (chunk_bytes ds) y))
one_takes_after n past (c ∷ cs) [] x y hc hd bc bd ec ed e =
    absurd (ends_without_chunk n past c y (chunk_bytes cs ++ x) hc.0 bc.0 ed (sym e ∙ append_assoc (bytes_of c) (chunk_bytes cs) x))
one_takes_after n past (c ∷ cs) (d ∷ ds) x y hc hd bc bd ec ed e =
    let f : bytes_of c ++ (chunk_bytes cs ++ x) ≡ bytes_of d ++ (chunk_bytes ds ++ y) =
    sym (append_assoc (bytes_of c) (chunk_bytes cs) x) ∙ e ∙ append_assoc (bytes_of d) (chunk_bytes ds) y in
    let first = chunks_apart c d (chunk_bytes cs ++ x) (chunk_bytes ds ++ y) hc.0 hd.0 f in
    let Below : Chunk → Type 0 = λ b. StayBelowAfter n (then_chunk past b) ds in
    let Ends : Chunk → Type 0 = λ b. EndsChunks n (then_chunks (then_chunk past b) ds) y in
    let more = one_takes_after n (then_chunk past c) cs ds x y hc.1 hd.1 bc.1 (subst Below (sym first.0) bd.1) ec (subst Ends (sym first.0) ed) first.1 in
    (cc, more.1)

-- chunks that begin the bytes, and what follows where reading ends
record Reads (n : ℕ) (bytes : List ℕ) (cs : List Chunk) (x : List ℕ) : Type 0 where
  pub has : HasChunks n bytes cs x
  pub ends : EndsChunks n (then_chunks [] cs) x

-- two readings of the same bytes are one
one_reading : {n : ℕ} {bytes : List ℕ} {cs ds : List Chunk} {x y : List ℕ} → Reads n bytes cs x → Reads n bytes ds y → (cs ≡ ds) × (x ≡ y)
one_reading {n = n} {cs = cs} {ds = ds} {x = x} {y = y} s t =
    one_takes_after n [] cs ds x y s.has.chunks t.has.chunks s.has.stays_below t.has.stays_below s.ends t.ends (sym s.has.split ∙ t.has.split)

-- chunks that reach n pixels are a reading
enough : {n : ℕ} {bytes : List ℕ} {cs : List Chunk} {x : List ℕ} → HasChunks n bytes cs x → n ≤ length (meaning cs) → Reads n bytes cs x
enough {cs = cs} has h = record { has = has; ends = inl (omega (arith, h, length-meaning cs)) }

-- so are the chunks of cut bytes
cut : {n : ℕ} {bytes : List ℕ} {cs : List Chunk} {x : List ℕ} → IsCut n bytes cs x → Reads n bytes cs x
cut {cs = cs} c = record { has = c.has; ends = grind (arith, c.ends, length-meaning cs) }

-- cut bytes whose chunks reach n pixels have fewer than eight bytes after them
cut_is_short : (n : ℕ) (bytes : List ℕ) (cs : List Chunk) (x : List ℕ) → IsCut n bytes cs x → n ≤ length (meaning cs) → length x < 8
cut_is_short n bytes cs x h many = grind (arith, h.ends, many)

-- lists of one length that begin the same bytes are one, and so is what follows
same_front : (a b x y : List ℕ) → length a ≡ length b → a ++ x ≡ b ++ y → (a ≡ b) × (x ≡ y)
same_front a b x y h e = (
  sym (take_at a x (length a) refl) ∙ ap (take (length a)) e ∙ take_at b y (length a) (sym h),
  sym (drop_at a x (length a) refl) ∙ ap (drop (length a)) e ∙ drop_at b y (length a) (sym h),
)

-- bytes are whole in one way only
pub whole_is_one : (n : ℕ) (bytes : List ℕ) (cs ds : List Chunk) (x y : List ℕ) → IsWhole n bytes cs x → IsWhole n bytes ds y → (cs ≡ ds) × (x ≡ y)
whole_is_one n bytes cs ds x y s t =
    let both = one_reading (enough s.has s.enough) (enough t.has t.enough) in (both.0, append_cancel_left end_marker x y both.1)

-- bytes are cut in one way only
pub cut_is_one : (n : ℕ) (bytes : List ℕ) (cs ds : List Chunk) (x y : List ℕ) → IsCut n bytes cs x → IsCut n bytes ds y → (cs ≡ ds) × (x ≡ y)
cut_is_one n bytes cs ds x y s t = one_reading (cut s) (cut t)

-- bytes are wrong in one way only
pub wrong_is_one : (n : ℕ) (bytes : List ℕ) (cs ds : List Chunk) (eight other x y : List ℕ)
    → IsWrong n bytes cs eight x → IsWrong n bytes ds other y → (cs ≡ ds) × (eight ≡ other) × (x ≡ y)
wrong_is_one n bytes cs ds eight other x y s t =
    let both = one_reading (enough s.has s.enough) (enough t.has t.enough) in
    let ends = same_front eight other x y (s.length_is ∙ sym t.length_is) both.1 in
    (both.0, ends.0, ends.1)

-- whole bytes aren't cut
pub whole_not_cut : (n : ℕ) (bytes : List ℕ) (cs ds : List Chunk) (x part : List ℕ) → IsWhole n bytes cs x → IsCut n bytes ds part → ⊥
whole_not_cut n bytes cs ds x part s t =
    let both = one_reading (enough s.has s.enough) (cut t) in
    let short = cut_is_short n bytes ds part t (subst (λ (bs : List Chunk). n ≤ length (meaning bs)) both.0 s.enough) in
    omega (arith, ap length both.1, short)

-- whole bytes aren't wrong
pub whole_not_wrong : (n : ℕ) (bytes : List ℕ) (cs ds : List Chunk) (x eight rest : List ℕ) → IsWhole n bytes cs x → IsWrong n bytes ds eight rest → ⊥
whole_not_wrong n bytes cs ds x eight rest s t =
    let both = one_reading (enough s.has s.enough) (enough t.has t.enough) in
    t.other (sym (same_front end_marker eight x rest (sym t.length_is) both.1).0)

-- cut bytes aren't wrong
pub cut_not_wrong : (n : ℕ) (bytes : List ℕ) (cs ds : List Chunk) (part eight rest : List ℕ) → IsCut n bytes cs part → IsWrong n bytes ds eight rest → ⊥
cut_not_wrong n bytes cs ds part eight rest s t =
    let both = one_reading (cut s) (enough t.has t.enough) in
    let short = cut_is_short n bytes cs part s (subst (λ (bs : List Chunk). n ≤ length (meaning bs)) (sym both.0) t.enough) in
    omega (arith, ap length both.1, length-append eight rest, t.length_is, short)
