-- What was read from a stream, piece after piece, and why an image is refused.
use Rattle.std.proofs.Common.{◌≡◌, ℕ, zero, suc, ◌+◌, ◌<◌, ◌≤◌, ◌-◌, ◌⊎◌, inl, inr, List, [], ◌∷◌, ◌++◌, length, get_or, take, drop, take-append-drop, Option, arith, refl, sym, ap, ◌∙◌}
use Rattle.std.specs.Io.KnownBytes.{Consumes}
use Rattle.std.proofs.KnownBytes.{Consumes-trans}
use Rattle.qoi.specs.inner.Filling.{Filling, DecodesChunk}
use Rattle.qoi.proofs.format.OneVerdict.{chunks_apart}
use Rattle.std.proofs.lemmas.Bool.{cases_lt}
use Rattle.qoi.specs.Qoi.{Error, InvalidPadding, IoError, UnexpectedBufferEnd, Chunk, Place, Diff, Run, Rgb, Rgba, AreBytes, IsChunk, AreChunks, bytes_of, chunk_bytes, Reaches, marker_size}
use Rattle.qoi.specs.Verdicts.{HasChunks, AreCut, AreWrongThen}
use Rattle.qoi.specs.Decoding.{RefusesBytes, RefusesTaken}

-- the front of bytes is bytes
pub bytes_take : (n : ℕ) (bytes : List ℕ) → AreBytes bytes → AreBytes (take n bytes)
bytes_take (suc n) (b ∷ bytes) h zero = h 0
bytes_take (suc n) (b ∷ bytes) h (suc i) = bytes_take n bytes (λ j. h (suc j)) i
bytes_take n bytes h i = omega arith

-- bytes and bytes are bytes
pub bytes_append : (xs ys : List ℕ) → AreBytes xs → AreBytes ys → AreBytes (xs ++ ys)
bytes_append [] ys h k i = k i
bytes_append (x ∷ xs) ys h k zero = h 0
bytes_append (x ∷ xs) ys h k (suc i) = bytes_append xs ys (λ j. h (suc j)) k i

-- the taken bytes are those of a chunk, and others begin with them
abbrev pub IsChunkAhead : List ℕ → List ℕ → Type 0
IsChunkAhead bytes taken = (c : Chunk) × (rest : List ℕ) × IsChunk c × (taken ≡ bytes_of c) × (bytes ≡ bytes_of c ++ rest)

-- the chunk decoded from such bytes, after the first of which more were taken, is the one taken
pub decodes_taken : {f c : ℕ} {old new : Filling} (start middle end : Option (List ℕ)) (bytes : List ℕ) (size b : ℕ) (more : List ℕ) → Consumes start middle (b ∷ [])
    → Consumes middle end more → IsChunkAhead bytes (b ∷ more) → DecodesChunk f c (take size bytes) old new → (taken : List ℕ) × Consumes start end taken × DecodesChunk f c taken old new
decodes_taken start middle end bytes size b more one others (c, rest, is_chunk, taken_is, bytes_are) first =
    let split = sym (take-append-drop size bytes) ∙ ap (λ z. z ++ drop size bytes) first.bytes_are in
    let same = chunks_apart c first.chunk rest (drop size bytes) is_chunk first.is_chunk (sym bytes_are ∙ split) in (
      b ∷ more,
      Consumes-trans start middle end (b ∷ []) more one others,
      record { chunk = first.chunk; is_chunk = first.is_chunk; bytes_are = taken_is ∙ ap bytes_of same.0; has_seen = first.has_seen; filled = first.filled },
    )

-- the byte of an index position, difference or run is a chunk of its own
pub alone_ahead : (b : ℕ) (zeros : List ℕ) → (b < 128) ⊎ ((192 ≤ b) × (b < 254)) → IsChunkAhead (b ∷ zeros) (b ∷ [])
alone_ahead b zeros (inl low) =
    elim (cases_lt b 64) [
      | inl place ↦ (Place b, zeros, place, refl, refl)
      | inr diff ↦ (Diff b, zeros, (diff, low), refl, refl)
    ]
alone_ahead b zeros (inr run) =
    let n : b ≡ 191 + (b - 191) = omega (arith, run.0) in (
      Run (b - 191),
      zeros,
      (omega (arith, run.0), omega (arith, run.1)),
      ap (λ x. x ∷ []) n,
      ap (λ x. x ∷ zeros) n,
    )

-- three bytes after the first byte of RGB
pub rgb_ahead : (b : ℕ) (more zeros : List ℕ) → b ≡ 254 → length more ≡ 3 → AreBytes more
    → IsChunkAhead (b ∷ get_or more 0 0 ∷ get_or more 1 0 ∷ get_or more 2 0 ∷ zeros) (b ∷ more)
rgb_ahead x (r ∷ g ∷ b ∷ []) zeros is size fits = (Rgb r g b, zeros, (fits 0, fits 1, fits 2), rw is refl, rw is refl)
rgb_ahead x _ zeros is size fits = absurd (omega arith)

-- four bytes after the first byte of RGBA
pub rgba_ahead : (b : ℕ) (more zeros : List ℕ) → b ≡ 255 → length more ≡ 4 → AreBytes more
    → IsChunkAhead (b ∷ get_or more 0 0 ∷ get_or more 1 0 ∷ get_or more 2 0 ∷ get_or more 3 0 ∷ zeros) (b ∷ more)
rgba_ahead x (r ∷ g ∷ b ∷ a ∷ []) zeros is size fits = (Rgba r g b a, zeros, (fits 0, fits 1, fits 2, fits 3), rw is refl, rw is refl)
rgba_ahead x _ zeros is size fits = absurd (omega arith)

-- bytes that begin with no chunk, behind chunks that reach n pixels
has_behind : {n : ℕ} {cs none : List Chunk} {bytes rest : List ℕ} → AreChunks cs → Reaches n cs → HasChunks 0 bytes none rest → HasChunks n (chunk_bytes cs ++ bytes) cs rest
has_behind {cs = cs} {none = []} chunks reaches has =
    record { chunks = chunks; stays_below = reaches.stays_below; split = ap (λ z. chunk_bytes cs ++ z) has.split }
has_behind {none = c ∷ more} chunks reaches has = absurd (omega (arith, has.stays_below.0))

-- they are cut there if they are cut alone
cut_behind : (n : ℕ) (cs : List Chunk) → AreChunks cs → Reaches n cs → (bytes : List ℕ) → AreCut 0 bytes → AreCut n (chunk_bytes cs ++ bytes)
cut_behind n cs chunks reaches bytes (none, part, cut) =
    let few : length part < marker_size = elim cut.ends [ inl fewer ↦ absurd (omega (arith, fewer.0)) | inr few ↦ few.1 ] in
    (cs, part, record { has = has_behind chunks reaches cut.has; ends = inr (reaches.enough, few) })

-- and wrong if they are wrong alone
wrong_behind : (n : ℕ) (cs : List Chunk) → AreChunks cs → Reaches n cs → (bytes rest : List ℕ) → AreWrongThen 0 bytes rest
    → AreWrongThen n (chunk_bytes cs ++ bytes) rest
wrong_behind n cs chunks reaches bytes rest (none, eight, wrong) =
    (cs, eight, record { has = has_behind chunks reaches wrong.has; enough = reaches.enough; length_is = wrong.length_is; other = wrong.other })

-- why an image is refused whose marker is refused
pub refused_after : (n : ℕ) (cs : List Chunk) → AreChunks cs → Reaches n cs → (taken : List ℕ) (e : Error) → RefusesTaken 0 taken e
    → RefusesTaken n (chunk_bytes cs ++ taken) e
refused_after n cs chunks reaches taken (IoError x) cut = cut_behind n cs chunks reaches taken cut
refused_after n cs chunks reaches taken InvalidPadding wrong = wrong_behind n cs chunks reaches taken [] wrong
refused_after n cs chunks reaches taken _ none = none

-- and in memory
pub bytes_refused : (n : ℕ) (cs : List Chunk) → AreChunks cs → Reaches n cs → (bytes : List ℕ) (e : Error) → RefusesBytes 0 bytes e
    → RefusesBytes n (chunk_bytes cs ++ bytes) e
bytes_refused n cs chunks reaches bytes UnexpectedBufferEnd cut = cut_behind n cs chunks reaches bytes cut
bytes_refused n cs chunks reaches bytes InvalidPadding (rest, wrong) = (rest, wrong_behind n cs chunks reaches bytes rest wrong)
bytes_refused n cs chunks reaches bytes _ none = none
