-- What a written list looks like: no two neighbours name one index position, each chunk adds
-- pixels, and its length is bounded.
use Rattle.std.proofs.Common.{◌≡◌, inl, inr, ℕ, ◌+◌, ◌*◌, ◌<◌, ◌≤◌, List, [], ◌∷◌, ◌++◌, length, reverse, refl, sym, ap, ◌∙◌, eqb, add-mul, arith}
use Rattle.std.proofs.lemmas.List.{reverse-reverse, length-append, length-replicate}
use Rattle.std.proofs.lemmas.Bool.{cond_both}
use Rattle.qoi.specs.Qoi.{Chunk, Place, Diff, Luma, Run, Rgb, Rgba, RgbaPixel, Past, previous, start, seen, hash, IsChunk, AreChunks, bytes_of, chunk_bytes, times, then_chunk, then_chunks, meaning, Each}
use Rattle.qoi.specs.Raw.{AreOpaque, HasChannels}
use Rattle.qoi.specs.Written.{IsAllowedAfter, WrittenBy}
use Rattle.qoi.proofs.format.SamePixels.{same_pixel}
use Rattle.qoi.proofs.format.ChunkSteps.{times_some, then_chunks_given, length-then_chunks, given, meaning_given, each_back, all_back, all_reverse}
use Rattle.qoi.proofs.encoding.lists.WrittenExists.{SeenOrFirst}

-- an index position holds the same after being named
pub seen_again : (past : Past) (i : ℕ) → seen (seen past i ∷ past) i ≡ seen past i
seen_again past i = cond_both (eqb (hash (seen past i)) i) (seen past i) (seen past i) (λ x. x ≡ seen past i) (λ _. refl) (λ _. refl)

-- two neighbours never name one index position
pub apart_by : (Choice : Past → RgbaPixel → Chunk → Type 0) (image : List RgbaPixel) (cs front rest : List Chunk) (i : ℕ) → WrittenBy Choice image cs
    → cs ≡ front ++ Place i ∷ Place i ∷ rest → ⊥
apart_by Choice image cs front rest i w e =
    let r : Each (IsAllowedAfter Choice) [] (front ++ Place i ∷ Place i ∷ rest) = rw e at w.allowed in
    let s = each_back (IsAllowedAfter Choice) [] front (Place i ∷ Place i ∷ rest) r in
    s.1.0.is_fresh (seen_again (then_chunks [] front) i)

-- before each chunk there are fewer pixels than at the end
pub stay_below : (past : Past) (cs : List Chunk) (n : ℕ) → AreChunks cs → length (then_chunks past cs) ≡ n → Each (λ past c. length past < n) past cs
stay_below past [] n a e = tt
stay_below past (c ∷ cs) n a e =
    let s = times_some c a.0 in
    let g = length-then_chunks (then_chunk past c) cs in
    let l : length (then_chunk past c) ≡ times c + length past = simp (length-append, length-replicate) in
    (omega arith, stay_below (then_chunk past c) cs n a.1 e)

-- the pixel before the next one is opaque, if all are
opaque_previous : (past : Past) → AreOpaque past → (previous past).a ≡ 255
unfolding start
opaque_previous [] h = refl
opaque_previous (p ∷ past) h = h.0

-- the pixels of chunks have as many channels as their image
pub channels_all : (channels : ℕ) (image : List RgbaPixel) (cs : List Chunk) → meaning cs ≡ image → HasChannels image channels
    → HasChannels (then_chunks [] cs) channels
channels_all channels image cs means (inl e) = inl e
channels_all channels image cs means (inr (e, h)) =
    let before : reverse image ≡ then_chunks [] cs = ap reverse (sym means) ∙ reverse-reverse (then_chunks [] cs) in
    inr (e, rw before at (all_reverse (λ p. p.a ≡ 255) image h))

-- pixels before chunks have as many channels as those after them
pub channels_before : (channels : ℕ) (past : Past) (cs : List Chunk) → HasChannels (then_chunks past cs) channels → HasChannels past channels
channels_before channels past cs (inl e) = inl e
channels_before channels past cs (inr (e, h)) =
    inr (e, all_back (λ p. p.a ≡ 255) (reverse (given past cs)) past (rw (then_chunks_given past cs) at h))

module _ (Choice : Past → RgbaPixel → Chunk → Type 0) (choice_is : (past : Past) (p : RgbaPixel) (c : Chunk) → Choice past p c → SeenOrFirst past p c) where
  -- a chunk has at most a byte a pixel more than its pixels' raw bytes
  pub chunk_fits : (channels : ℕ) (past : Past) (c : Chunk) → IsChunk c → HasChannels (then_chunk past c) channels → IsAllowedAfter Choice past c
      → length (bytes_of c) ≤ times c * channels + times c
  chunk_fits channels past (Place i) k h r = omega arith
  chunk_fits channels past (Diff d) k h r = omega arith
  chunk_fits channels past (Luma d e) k (inl s) r = omega arith
  chunk_fits channels past (Luma d e) k (inr s) r = let t = s.0 in omega arith
  chunk_fits channels past (Run n) k h r = let l = k.0 in omega arith
  chunk_fits channels past (Rgb x y z) k (inl s) r = omega arith
  chunk_fits channels past (Rgb x y z) k (inr s) r = let t = s.0 in omega arith
  chunk_fits channels past (Rgba x y z w) k (inl s) r = omega arith
  chunk_fits channels past (Rgba x y z w) k (inr s) r =
      let shorter = (choice_is past _ (Rgba x y z w) r.is_chosen).first (Rgb x y z) (k.0, k.1, k.2) (omega arith)
      (same_pixel _ _ refl refl refl (opaque_previous past s.1.1 ∙ sym s.1.0)) in
      absurd (omega arith)

  -- so have chunks
  chunks_fit : (channels : ℕ) (past : Past) (cs : List Chunk) → AreChunks cs → HasChannels (then_chunks past cs) channels → Each (IsAllowedAfter Choice) past cs
      → length (chunk_bytes cs) ≤ length (given past cs) * channels + length (given past cs)
  chunks_fit channels past [] k h r = omega arith
  chunks_fit channels past (c ∷ cs) k h r =
      let one = chunk_fits channels past c k.0 (channels_before channels (then_chunk past c) cs h) r.0 in
      let more = chunks_fit channels (then_chunk past c) cs k.1 h r.1 in
      let l : length (given past (c ∷ cs)) ≡ times c + length (given (then_chunk past c) cs) = simp (length-append, length-replicate) in
      let t : length (chunk_bytes (c ∷ cs)) ≡ length (bytes_of c) + length (chunk_bytes cs) = simp length-append in
      let m = add-mul (times c) (length (given (then_chunk past c) cs)) channels in
      rw (l, t) (omega arith)

  -- a written list has at most a byte a pixel more than the raw bytes
  pub fits_by : (image : List RgbaPixel) (channels n : ℕ) (cs : List Chunk) → HasChannels image channels → length image ≡ n → WrittenBy Choice image cs
      → length (chunk_bytes cs) ≤ n * channels + n
  fits_by image channels n cs h e w =
      let g : length (given [] cs) ≡ n = ap length (sym (meaning_given cs) ∙ w.means) ∙ e in
      let k = chunks_fit channels [] cs w.chunks (channels_all channels image cs w.means h) w.allowed in
      rw g at k
