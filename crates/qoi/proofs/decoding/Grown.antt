-- A buffer that grows while it is decoded into.
use Rattle.std.proofs.Common.{◌≡◌, ℕ, ◌+◌, ◌-◌, ◌*◌, ◌/◌, ◌%◌, ◌<◌, ◌≤◌, List, Bool, false, Option, None, Some, IfSome, inl, refl, [], ◌∷◌, ◌++◌, length, take, drop, replicate, min, arith, sym, ap, ◌∙◌, subst, length-append}
use Rattle.std.specs.Io.KnownBytes.{Consumes}
use Rattle.std.proofs.lemmas.List.{length-replicate, take-append-le}
use lib.Seq.{take-append_seam}
use Rattle.qoi.specs.declared.decode.chunks.TheConstants.{GROWTH}
use Rattle.qoi.specs.Qoi.{IoError, Past, chunk_bytes, start, then_chunks}
use Rattle.qoi.specs.Raw.{IsChannels, raw_per_byte}
use Rattle.qoi.specs.Verdicts.{IsPartOfChunk}
use Rattle.qoi.specs.inner.Hashed.{pixel_of_lanes, HoldsSeen}
use Rattle.qoi.specs.inner.Filling.{Reached, Filling, reached, filling, IsFillable, DecoderBetween}
use Rattle.qoi.specs.inner.Chunks.{TakesMore, RefusesFilling}
use Rattle.qoi.proofs.format.WholePixels.{whole_pixels}
use Rattle.qoi.proofs.decoding.TakenBytes.{pixels_most}
use Rattle.qoi.proofs.decoding.Progress.{fewer, stays_more, start_between}
use Rattle.std.proofs.KnownBytes.{Consumes-trans}
use Rattle.qoi.proofs.format.ChunkSteps.{length-meaning}

-- if n pixels have more bytes than m, they are more
more_pixels : (c m n size more : ℕ) → IsChannels c → size ≡ c * m → size + more ≡ c * n → m ≤ n
more_pixels c m n size more is few many = grind (arith, is)

-- a buffer that isn't full may have bytes more
pub grows : {f c : ℕ} {gone : Past} {m : ℕ} {start ahead : Option (List ℕ)} {table out : List ℕ} {now : Reached} → IsChannels c
    → DecoderBetween f c gone m start ahead (filling table now out) → now.at < length out → (n : ℕ) (more : List ℕ) → length out + length more ≡ c * n
    → DecoderBetween f c gone n start ahead (filling table now (out ++ more))
grows {c = c} {gone = gone} {m = m} {out = out} {now = now} is s inside n more size =
    let past = s.recent in
    let below : length past < m = fewer is s.filled inside in
    let most : m ≤ n = more_pixels c m n (length out) (length more) is s.filled.room size in
    let same : min m (length past) ≡ min n (length past) = omega (arith, below, most) in
    let size_is = length-append out more in
    record {
      recent = s.recent;
      after = s.after;
      stays_below = stays_more (length gone + m) (length gone + n) (omega (arith, most)) [] s.after.cs s.stays_below;
      filled = record {
        room = size_is ∙ size;
        at_is = s.filled.at_is ∙ ap (λ k. c * k) same;
        same = take-append-le now.at out more (omega (arith, inside)) ∙ s.filled.same;
      };
    }

-- what stands between two chunks, however many bytes the buffer gets
abbrev pub Growing : ℕ → ℕ → Option (List ℕ) → Option (List ℕ) → List ℕ → Reached → List ℕ → Type 0
Growing f c start ahead table now out = (n : ℕ) (more : List ℕ) → length out + length more ≡ c * n
    → DecoderBetween f c [] n start ahead (filling table now (out ++ more))

-- n pixels have a whole number of bytes
whole_count : (c n size : ℕ) → IsChannels c → size ≡ c * n → (size / c ≡ n) × (size % c ≡ 0)
whole_count c n size is e = grind (arith, is)

-- before the first chunk
pub growing_start : (f c : ℕ) (ahead : Option (List ℕ)) (table : List ℕ) (last : ℕ) (out : List ℕ) → IsChannels c → length out ≡ 0
    → HoldsSeen table [] → pixel_of_lanes last ≡ start → Growing f c ahead ahead table (reached last 0) out
growing_start f c ahead table last [] is empty blank opaque n more size =
    let (many, whole) = whole_count c n (length more) is (omega (arith, size)) in
    subst (λ k. DecoderBetween f c [] k ahead ahead (filling table (reached last 0) more)) many (start_between f c ahead table last more is whole blank opaque)
growing_start f c ahead table last (x ∷ out) is empty blank opaque n more size = absurd (omega arith)

-- with zeros up to a size
pub grown : {f c : ℕ} {start ahead : Option (List ℕ)} {table : List ℕ} {now : Reached} (old new : List ℕ) (len size : ℕ) → IsChannels c → Growing f c start ahead table now old
    → len ≡ length old → len ≤ size → size % c ≡ 0 → new ≡ old ++ replicate (size - len) 0 → DecoderBetween f c [] (size / c) start ahead (filling table now new)
grown {f} {c} {start} {ahead} {table} {now} old new len size is g len_is within whole new_is =
    let zeros : List ℕ = replicate (size - len) 0 in
    let all : length old + length zeros ≡ c * (size / c) = omega (arith, len_is, within, length-replicate {A = ℕ} (size - len) 0) ∙ whole_pixels c size is whole in
    subst (λ z. DecoderBetween f c [] (size / c) start ahead (filling table now z)) (sym new_is) (g (size / c) zeros all)

-- a vector that lent itself whole holds what was written
pub lent_back : (len : ℕ) (buf items : List ℕ) → len ≡ length buf → take len (buf ++ drop (length buf) items) ≡ buf
lent_back len buf items size = ap (λ k. take k (buf ++ drop (length buf) items)) size ∙ take-append_seam buf (drop (length buf) items)

-- what stands between two chunks can be filled
pub between_fillable : {f c : ℕ} {gone : Past} {n : ℕ} {start ahead : Option (List ℕ)} {now : Filling} → IsChannels c → DecoderBetween f c gone n start ahead now → IsFillable c now.out now.at
between_fillable {c = c} {n = n} {now = now} is s =
    let room = s.filled.room in
    let at = s.filled.at_is in
    record { three_or_four = is; within = grind (arith, is, room, at); whole = (grind (arith, is, room), grind (arith, is, at)) }

-- a step is whole pixels
pub whole_step : (c len new : ℕ) → IsChannels c → len % c ≡ 0 → new ≡ len + GROWTH * c → new % c ≡ 0
whole_step c len new is whole e = grind (arith, is)

-- fewer bytes are no more pixels
pub fewer_pixels : (c few many : ℕ) → IsChannels c → few ≤ many → few / c ≤ many / c
fewer_pixels c few many is l = grind (arith, is)

-- if a stream gives no whole chunk, it is refused
pub stream_refused : {f c : ℕ} {fits : Bool} {ahead middle : Option (List ℕ)} {old now : Filling} (new : Option (List ℕ)) (part : List ℕ) → TakesMore f c fits ahead middle old now
    → now.at < length now.out → Consumes middle new part → IsPartOfChunk part → (e : _) → RefusesFilling f c false ahead new old (IoError e)
stream_refused {middle = middle} new part on inside took is_part e gone n first h all more =
    let s = on.between gone n first h in (
      chunk_bytes s.after.cs ++ part,
      Consumes-trans first middle new (chunk_bytes s.after.cs) part s.after.taken took,
      (
        s.after.cs,
        part,
        record {
          has = record { chunks = s.after.chunks; stays_below = stays_more (length gone + n) all more [] s.after.cs s.stays_below; split = refl };
          ends = inl (rw length-meaning (omega (arith, fewer on.fillable.three_or_four s.filled inside, ap length s.after.pixels, length-append s.recent gone, more)), is_part);
        },
      ),
    )

-- so many bytes of pixels, a run for each byte at most
at_most_raw : (c n at few size : ℕ) → IsChannels c → at ≡ c * min n few → few ≤ 62 * size → at ≤ raw_per_byte * size
at_most_raw c n at few size is e l = grind (arith, is)

-- what is written is at most `raw_per_byte` for each byte ahead
pub written_most : {f c : ℕ} {gone : Past} {n : ℕ} {now : Filling} (start new : Option (List ℕ)) → IsChannels c → DecoderBetween f c gone n start new now
    → IfSome start (λ bytes. now.at ≤ raw_per_byte * length bytes)
written_most None new is s = tt
written_most (Some bytes) None is s = absurd s.after.taken
written_most {c = c} {gone = gone} {n = n} {now = now} (Some bytes) (Some rest) is s =
    let past = s.recent in
    let many = pixels_most [] s.after.cs s.after.chunks in
    let fewer : length past ≤ length (then_chunks [] s.after.cs) = omega (arith, ap length s.after.pixels, length-append s.recent gone) in
    let size : length bytes ≡ length (chunk_bytes s.after.cs) + length rest = ap length s.after.taken ∙ length-append (chunk_bytes s.after.cs) rest in
    at_most_raw c n now.at (length past) (length bytes) is s.filled.at_is (omega (arith, many, fewer, size))

-- so is what has some bytes more, and these
pub at_most : (start : Option (List ℕ)) (few many more : ℕ) → many ≤ few + more → IfSome start (λ bytes. few ≤ raw_per_byte * length bytes)
    → IfSome start (λ bytes. many ≤ raw_per_byte * length bytes + more)
at_most None few many more is within = tt
at_most (Some bytes) few many more is within = omega (arith, is, within)
