-- How many bytes a decoder takes for n pixels, and how many an image has at least.
use Rattle.std.proofs.Common.{ℕ, ◌+◌, ◌*◌, ◌≤◌, List, [], ◌∷◌, ◌++◌, ◌∙◌, length, arith, ap, length-append, ◌≡◌, inl, inr, Bool, true, false, Option}
use Rattle.qoi.specs.Qoi.{Chunk, Run, Error, InvalidPadding, IoError, Past, IsChunk, AreChunks, bytes_of, chunk_bytes, times, then_chunk, then_chunks, end_marker, StayBelow}
use Rattle.qoi.specs.Verdicts.{HasChunks, IsWhole, IsPartOfChunk, AreCut, AreWrongThen}
use Rattle.qoi.specs.Decoding.{least_byte_count, ReadsImage, RefusesImage}
use Rattle.qoi.proofs.format.ChunkSteps.{length-bytes_of, length-meaning, length-then_chunk, times_some}
use Rattle.std.proofs.KnownBytes.{Consumes-nil, Consumes-kept}
use Rattle.qoi.specs.DecoderState.{TakesAtMost}
use Rattle.qoi.proofs.format.OneVerdict.{StayBelowAfter}

-- the bytes of a chunk and of those behind it
chunk_and : (c : Chunk) (cs : List Chunk) → length (chunk_bytes (c ∷ cs)) ≡ length (bytes_of c) + length (chunk_bytes cs)
chunk_and c cs = length-append (bytes_of c) (chunk_bytes cs)

-- each pixel takes five bytes at most
pub bytes_within : (past : Past) (cs : List Chunk) → AreChunks cs → length (chunk_bytes cs) + 5 * length past ≤ 5 * length (then_chunks past cs)
bytes_within past [] h = omega arith
bytes_within past (c ∷ cs) h =
    let rest = bytes_within (then_chunk past c) cs h.1 in
    omega (arith, rest, chunk_and c cs, length-bytes_of c, times_some c h.0, length-then_chunk past c)

-- the same for chunks that each stand after fewer than n pixels, whatever the last of them gives
bytes_short : (n : ℕ) (past : Past) (cs : List Chunk) → AreChunks cs → length past ≤ n → StayBelowAfter n past cs
    → length (chunk_bytes cs) + 5 * length past ≤ 5 * n
bytes_short n past [] h below short = omega arith
bytes_short n past (c ∷ []) h below short = omega (arith, chunk_and c [], length-bytes_of c, short.0)
bytes_short n past (c ∷ d ∷ cs) h below short =
    let rest = bytes_short n (then_chunk past c) (d ∷ cs) h.1 (omega (arith, short.1.0)) short.1 in
    omega (arith, rest, chunk_and c (d ∷ cs), length-bytes_of c, times_some c h.0, length-then_chunk past c)

-- so chunks for n pixels have five bytes for each pixel, at most
all_short : (n : ℕ) (cs : List Chunk) → AreChunks cs → StayBelow n cs → length (chunk_bytes cs) ≤ 5 * n
all_short n cs h short = omega (arith, bytes_short n [] cs h (omega arith) short)

-- a part of a chunk has fewer bytes than five
part_within : (part : List ℕ) → IsPartOfChunk part → length part ≤ 4
part_within part (c, next, more, is, e) = omega (arith, length-bytes_of c, ap length e, length-append part (next ∷ more))

-- bytes are those of their chunks, and the rest
all_bytes : {n : ℕ} {bytes rest : List ℕ} {cs : List Chunk} → HasChunks n bytes cs rest → length bytes ≡ length (chunk_bytes cs) + length rest
all_bytes {rest = rest} {cs} has = ap length has.split ∙ length-append (chunk_bytes cs) rest

-- cut bytes are within the bound
cut_within : (n : ℕ) (bytes : List ℕ) → AreCut n bytes → length bytes ≤ 5 * n + 8
cut_within n bytes (cs, part, cut) =
    let size = all_bytes cut.has in
    elim cut.ends [
      | inl chunk ↦ omega (arith, bytes_within [] cs cut.has.chunks, length-meaning cs, chunk.0, part_within part chunk.1, size)
      | inr marker ↦ omega (arith, all_short n cs cut.has.chunks cut.has.stays_below, marker.1, size)
    ]

-- so are wrong ones with nothing after the eight bytes
wrong_within : (n : ℕ) (bytes : List ℕ) → AreWrongThen n bytes [] → length bytes ≤ 5 * n + 8
wrong_within n bytes (cs, eight, wrong) =
    omega (arith, all_short n cs wrong.has.chunks wrong.has.stays_below, wrong.length_is, all_bytes wrong.has, length-append eight [])

-- a decoded image is within the bound, too
pub read_within : (f c n : ℕ) (old new : Option (List ℕ)) (out : List ℕ) → ReadsImage f c n old new out → TakesAtMost (5 * n + 8) old new
read_within f c n old new out r = (
  chunk_bytes r.cs ++ end_marker,
  r.taken,
  omega (arith, all_short n r.cs r.chunks r.reaches.stays_below, length-append (chunk_bytes r.cs) end_marker),
)

-- a refused image is, too
pub refused_within : (in_memory : Bool) (n : ℕ) (old new : Option (List ℕ)) (e : Error) → RefusesImage in_memory n old new e → TakesAtMost (5 * n + 8) old new
refused_within true n old new e r = ([], Consumes-kept old old new [] (Consumes-nil old) r.0, omega arith)
refused_within false n old new (IoError x) (taken, took, why) = (taken, took, cut_within n taken why)
refused_within false n old new InvalidPadding (taken, took, why) = (taken, took, wrong_within n taken why)
refused_within false n old new _ (taken, took, why) = absurd why

-- a chunk gives 62 pixels at most
pub times_most : (c : Chunk) → IsChunk c → times c ≤ 62
times_most (Run n) is = is.1
times_most c is = omega arith

-- chunks give 62 pixels at most for each of their bytes
pub pixels_most : (past : Past) (cs : List Chunk) → AreChunks cs → length (then_chunks past cs) ≤ length past + 62 * length (chunk_bytes cs)
pixels_most past [] chunks = omega arith
pixels_most past (c ∷ cs) chunks =
    let rest = pixels_most (then_chunk past c) cs chunks.1 in
    omega (arith, rest, times_most c chunks.0, length-bytes_of c, chunk_and c cs, length-then_chunk past c)

-- whole bytes are enough; and an image and the end marker take nine at least
pub whole_holds : (n : ℕ) (bytes : List ℕ) (cs : List Chunk) (rest : List ℕ) → IsWhole n bytes cs rest
    → (least_byte_count n ≤ length bytes) × (1 ≤ n → length rest + 9 ≤ length bytes)
whole_holds n bytes cs rest whole =
    let most : n ≤ 62 * length (chunk_bytes cs) = omega (arith, pixels_most [] cs whole.has.chunks, whole.enough, length-meaning cs) in
    let size : length bytes ≡ length (chunk_bytes cs) + 8 + length rest = omega (arith, all_bytes whole.has, length-append end_marker rest) in
    (omega (arith, most, size), λ some. omega (arith, most, size, some))
