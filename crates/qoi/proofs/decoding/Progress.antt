-- A decoder between two chunks: what it has taken, filled and seen.
use Rattle.std.proofs.Common.{◌≡◌, ℕ, suc, ◌+◌, ◌/◌, ◌%◌, ◌<◌, ◌≤◌, inl, inr, List, [], ◌∷◌, ◌++◌, length, take, drop, take-append-drop, replicate, reverse, Bool, true, false, IsTrue, Option, None, Some, IfSome, arith, refl, sym, ap, ◌∙◌, subst, append_assoc, length-append}
use Rattle.qoi.specs.Qoi.{Error, Chunk, RgbaPixel, Past, AreBytes, start, bytes_of, chunk_bytes, pixel_after, times, then_chunks, meaning, Reaches, end_marker, IsChunk, Each, then_chunk}
use Rattle.std.specs.Io.KnownBytes.{Consumes}
use Rattle.std.proofs.KnownBytes.{Consumes-nil, Consumes-trans}
use Rattle.qoi.specs.Raw.{IsChannels, pixel_bytes, output}
use Rattle.qoi.specs.inner.Filling.{Filling, reached, filling, HasFilled, IsFillable, HasRoom, FillsMore, DecodesChunk, DecoderAfter, DecoderBetween}
use Rattle.qoi.specs.inner.Chunks.{TakesMore, TakesChunks, RefusesChunks, ReadsRest, RefusesRest}
use Rattle.qoi.specs.inner.Hashed.{pixel_of_lanes, HoldsSeen, HasSeen}
use Rattle.qoi.specs.Verdicts.{AreCut}
use Rattle.qoi.specs.Decoding.{ReadsImage, TakesBytes, RefusesBytes, RefusesTaken}
use Rattle.qoi.proofs.format.ChunkSteps.{times_some, then_chunks-append, each_append, all_append, chunk_bytes-last, length-meaning}
use Rattle.std.proofs.lemmas.Grind.{flat_map-append}
use Rattle.std.proofs.lemmas.List.{append_cancel_right, length-reverse, reverse-append}
use Rattle.std.proofs.Math.Seq.{take-append-add}
use Rattle.qoi.proofs.format.SomeVerdict.{reading_of}
use Rattle.qoi.proofs.format.WholePixels.{whole_pixels}
use Rattle.qoi.proofs.decoding.FilledBuffer.{counts, filled_all}
use Rattle.qoi.proofs.format.SeenTable.{previous_copies}
use Rattle.qoi.proofs.decoding.StreamReads.{refused_after, bytes_refused}

-- no pixels more
pub none_more : (n : ℕ) → length {A = RgbaPixel} [] + n ≡ n
none_more n = omega arith

-- fewer than n pixels were decoded, if there is room for more
pub fewer : {f c n at : ℕ} {out : List ℕ} {past : Past} → IsChannels c → HasFilled f c n out at past → at < length out → length past < n
fewer {c = c} {n = n} {at = at} {out = out} {past = past} is h inside =
    (counts c n (length past) 0 at (length out) is h.room h.at_is inside (omega arith)).below

-- none is a whole number of pixels
pub none_written : (c : ℕ) → IsChannels c → 0 % c ≡ 0
none_written c is = grind (arith, is)

-- an output of whole pixels can be filled from its first byte
pub fillable_whole : {c : ℕ} {out : List ℕ} → IsChannels c → length out % c ≡ 0 → IsFillable c out 0
fillable_whole is whole = record { three_or_four = is; within = omega arith; whole = (whole, none_written _ is) }

-- before the first chunk
pub start_between : (f c : ℕ) (ahead : Option (List ℕ)) (table : List ℕ) (last : ℕ) (out : List ℕ) → IsChannels c → length out % c ≡ 0
    → HoldsSeen table [] → pixel_of_lanes last ≡ start → DecoderBetween f c [] (length out / c) ahead ahead (filling table (reached last 0) out)
start_between f c ahead table last out is whole blank opaque = record {
  recent = [];
  after = record { cs = []; chunks = tt; pixels = refl; taken = Consumes-nil ahead; has_seen = record { table_is = blank; last_is = opaque } };
  stays_below = tt;
  filled = record { room = whole_pixels c (length out) is whole; at_is = grind (arith, is); same = refl };
}

-- one more chunk was taken and seen
pub after_chunk : {start ahead rest : Option (List ℕ)} {table table' : List ℕ} {last last' : ℕ} {past : Past} (chunk : Chunk) → IsChunk chunk → DecoderAfter start ahead table last past
    → HasSeen table' last' (then_chunk past chunk) → Consumes ahead rest (bytes_of chunk) → DecoderAfter start rest table' last' (then_chunk past chunk)
after_chunk {start} {ahead} {rest} chunk is s seen took = record {
  cs = s.cs ++ chunk ∷ [];
  chunks = all_append IsChunk s.cs (chunk ∷ []) s.chunks (is, tt);
  pixels = then_chunks-append [] s.cs (chunk ∷ []) ∙ ap (λ z. then_chunk z chunk) s.pixels;
  taken = subst (Consumes start rest) (sym (chunk_bytes-last s.cs chunk)) (Consumes-trans start ahead rest (chunk_bytes s.cs) (bytes_of chunk) s.taken took);
  has_seen = seen;
}

-- and its pixels were written
pub goes_on : {f c : ℕ} {gone : Past} {n : ℕ} {start ahead rest : Option (List ℕ)} {old new : Filling} {bytes : List ℕ} → IsChannels c → DecoderBetween f c gone n start ahead old
    → old.at < length old.out → DecodesChunk f c bytes old new → Consumes ahead rest bytes → DecoderBetween f c gone n start rest new
unfolding after_chunk
goes_on {f} {c} {gone} {n} {start} {ahead} {rest} {old} {new} {bytes} is s inside g took =
    let chunk = g.chunk in
    let cs = s.after.cs in
    let past = s.recent ++ gone in
    let has_seen = g.has_seen past s.after.has_seen in
    let pixel_is : pixel_of_lanes new.last ≡ pixel_after past chunk = has_seen.last_is ∙ previous_copies (times chunk) (pixel_after past chunk) past (times_some chunk g.is_chunk) in
    let copies = replicate (times chunk) (pixel_after past chunk) in
    let pushed : then_chunk past chunk ≡ (copies ++ s.recent) ++ gone = sym (append_assoc copies s.recent gone) in
    let after : DecoderAfter start rest new.table new.last (then_chunk past chunk) = after_chunk chunk g.is_chunk s.after has_seen (subst (Consumes ahead rest) g.bytes_are took) in
    let below : length (then_chunks [] cs) < length gone + n = omega (arith, fewer is s.filled inside, ap length s.after.pixels, length-append s.recent gone) in
    record {
      recent = copies ++ s.recent;
      after = record { cs = cs ++ chunk ∷ []; chunks = after.chunks; pixels = after.pixels ∙ pushed; taken = after.taken; has_seen = subst (HasSeen new.table new.last) pushed has_seen };
      stays_below = each_append (λ past c. length past < length gone + n) [] cs (chunk ∷ []) s.stays_below (below, tt);
      filled = subst (λ p. HasFilled f c n new.out new.at (replicate (times chunk) p ++ s.recent)) pixel_is (g.filled n s.recent s.filled);
    }

-- no chunk was taken
pub none_taken : {f c : ℕ} {ahead : Option (List ℕ)} {now : Filling} → IsFillable c now.out now.at → TakesMore f c true ahead ahead now now
none_taken is = record { between = λ gone n start h. h; fillable = is; on = omega arith; below = λ _ inside. inside }

-- one more was taken from the bytes ahead
pub takes_chunk : {f c : ℕ} {fits : Bool} {ahead middle rest : Option (List ℕ)} {old now new : Filling} {bytes : List ℕ} → TakesMore f c fits ahead middle old now
    → HasRoom c fits now.out now.at → DecodesChunk f c bytes now new → Consumes middle rest bytes → FillsMore c now.out now.at new.out new.at → TakesMore f c fits ahead rest old new
takes_chunk {middle = middle} {rest = rest} {bytes = bytes} so_far room decoded took more = record {
  between = λ gone n first h.
      goes_on room.fillable.three_or_four (so_far.between gone n first h) room.inside decoded took;
  fillable = more.fillable;
  on = omega (arith, so_far.on, more.on);
  below = λ fit _. more.below (room.vectors fit);
}

-- if the buffer is full, the chunks reach n pixels, and it holds the first n
reads_all : {f c : ℕ} {gone : Past} {n : ℕ} {start ahead : Option (List ℕ)} {now : Filling} → IsChannels c → (s : DecoderBetween f c gone n start ahead now) → length now.out ≤ now.at
    → Reaches (length gone + n) s.after.cs × (output f c (reverse gone) ++ now.out ≡ output f c (take (length gone + n) (meaning s.after.cs)))
reads_all {f} {c} {gone} {n} {now = now} is s full =
    let all = filled_all f c n now.out now.at s.recent is s.filled full in
    let size : length (then_chunks [] s.after.cs) ≡ length s.recent + length gone = ap length s.after.pixels ∙ length-append s.recent gone in
    let parts : meaning s.after.cs ≡ reverse gone ++ reverse s.recent = ap reverse s.after.pixels ∙ reverse-append s.recent gone in
    let front : take (length gone + n) (meaning s.after.cs) ≡ reverse gone ++ take n (reverse s.recent) =
    ap (take (length gone + n)) parts ∙ ap (λ k. take (k + n) (reverse gone ++ reverse s.recent)) (sym (length-reverse gone))
    ∙ take-append-add (reverse gone) (reverse s.recent) n in (
      record { stays_below = s.stays_below; enough = rw length-meaning (omega (arith, all.0, size)) },
      ap (λ z. output f c (reverse gone) ++ z) all.1 ∙ sym (flat_map-append (pixel_bytes f c) (reverse gone) (take n (reverse s.recent)))
          ∙ sym (ap (output f c) front),
    )

-- what was taken, said in another way
pub taken_as : {f c : ℕ} {gone : Past} {n : ℕ} {start ahead other rest : Option (List ℕ)} {now : Filling} → (s : DecoderBetween f c gone n start ahead now)
    → Consumes other rest (chunk_bytes s.after.cs) → DecoderBetween f c gone n other rest now
taken_as s taken =
    let a = s.after in
    record { recent = s.recent; after = record { cs = a.cs; chunks = a.chunks; pixels = a.pixels; taken = taken; has_seen = a.has_seen }; stays_below = s.stays_below; filled = s.filled }

-- the front of a slice was taken
pub split_taken : {bytes rest : List ℕ} (size : ℕ) → rest ≡ drop size bytes → Consumes (Some bytes) (Some rest) (take size bytes)
split_taken {bytes} size back = sym (take-append-drop size bytes) ∙ ap (λ z. take size bytes ++ z) (sym back)

-- what was taken before a slice of which the front was taken, and that
pub front_behind : (before all bytes : List ℕ) (size : ℕ) → before ++ bytes ≡ all ++ drop size bytes → before ++ take size bytes ≡ all
front_behind before all bytes size e =
    append_cancel_right (before ++ take size bytes) all (drop size bytes)
    (append_assoc before (take size bytes) (drop size bytes) ∙ ap (λ z. before ++ z) (take-append-drop size bytes) ∙ e)

-- the front of what a reader showed was taken
pub front_taken : {f c : ℕ} {ahead rest : Option (List ℕ)} {old new : Filling} (bytes : List ℕ) (size : ℕ) → TakesMore f c true (Some bytes) (Some (drop size bytes)) old new
    → Consumes ahead rest (take size bytes) → TakesMore f c true ahead rest old new
front_taken {ahead = ahead} {rest = rest} bytes size fast took = record {
  between = λ gone n first h.
      let before = chunk_bytes h.after.cs in
      let s = fast.between gone n (Some (before ++ bytes)) (taken_as h refl) in
      taken_as s (subst (Consumes first rest) (front_behind before _ bytes size s.after.taken) (Consumes-trans first ahead rest before (take size bytes) h.after.taken took));
  fillable = fast.fillable;
  on = fast.on;
  below = fast.below;
}

-- chunks were taken, and then more of them
pub more_after : {f c : ℕ} {fits first then : Bool} {ahead middle rest : Option (List ℕ)} {old now new : Filling} → (IsTrue fits → IsTrue first × IsTrue then)
    → TakesMore f c first ahead middle old now → TakesMore f c then middle rest now new → TakesMore f c fits ahead rest old new
more_after both a b = record {
  between = λ gone n start h. b.between gone n start (a.between gone n start h);
  fillable = b.fillable;
  on = omega (arith, a.on, b.on);
  below = λ fit inside. b.below (both fit).1 (a.below (both fit).0 inside);
}

-- the same up to where those stop
pub chunks_after : {f c : ℕ} {fits : Bool} {ahead middle rest : Option (List ℕ)} {old now new : Filling} → TakesMore f c true ahead middle old now
    → TakesChunks f c fits middle rest now new → TakesChunks f c fits ahead rest old new
chunks_after on r = record { goes_on = more_after (λ fit. (refl, fit)) on r.goes_on; filled = r.filled; full = r.full }

-- chunks that stand after fewer than m pixels stand after fewer than n, if that is no less
pub stays_more : (m n : ℕ) → m ≤ n → (past : Past) (cs : List Chunk) → Each (λ past c. length past < m) past cs → Each (λ past c. length past < n) past cs
stays_more m n more past [] below = tt
stays_more m n more past (c ∷ cs) below = (omega (arith, more, below.0), stays_more m n more (then_chunk past c) cs below.1)

-- if fewer bytes are left than an end marker has, the bytes are cut for an image of the pixels that are
-- gone and those that fit, or of more
pub few_left : {f c : ℕ} {gone : Past} {n : ℕ} {now : Filling} (start : Option (List ℕ)) (rest : List ℕ) → DecoderBetween f c gone n start (Some rest) now
    → AreBytes rest → length rest < 8 → (m : ℕ) → length gone + n ≤ m → IfSome start (AreCut m)
few_left None rest s fits few m more = tt
few_left {gone = gone} {n = n} (Some bytes) rest s fits few m more =
    let r = reading_of (suc (length rest)) m (then_chunks [] s.after.cs) rest (omega arith) fits in
    let all = s.after.cs ++ r.found in
    let pushed = then_chunks-append [] s.after.cs r.found in
    let short : length r.rest ≤ length rest = omega (arith, ap length r.split, length-append (chunk_bytes r.found) r.rest) in (
      all,
      r.rest,
      record {
        has = record {
          chunks = all_append IsChunk s.after.cs r.found s.after.chunks r.chunks;
          stays_below = each_append (λ past c. length past < m) [] s.after.cs r.found (stays_more (length gone + n) m more [] s.after.cs s.stays_below) r.stays_below;
          split = s.after.taken ∙ ap (λ z. chunk_bytes s.after.cs ++ z) r.split ∙ sym (append_assoc (chunk_bytes s.after.cs) (chunk_bytes r.found) r.rest)
              ∙ ap (λ z. z ++ r.rest) (sym (flat_map-append bytes_of s.after.cs r.found));
        };
        ends = elim r.ends [
          | inl enough ↦ inr (rw (length-meaning, pushed) enough, omega arith)
          | inr part ↦ inl (rw (length-meaning, pushed) part.0, part.1)
        ];
      },
    )

-- chunks fill the buffer, and then the end marker is taken
pub reads_rest : {f c : ℕ} {ahead middle rest : Option (List ℕ)} {old new : Filling} → TakesChunks f c false ahead middle old new → Consumes middle rest end_marker
    → ReadsRest f c ahead rest old new.out
reads_rest {middle = middle} {rest = rest} t took gone n first h =
    let s = t.goes_on.between gone n first h in
    let all = reads_all t.goes_on.fillable.three_or_four s (t.full refl) in
    record { cs = s.after.cs; chunks = s.after.chunks; reaches = all.0; taken = Consumes-trans first middle rest (chunk_bytes s.after.cs) end_marker s.after.taken took; out_is = all.1 }

-- or refused in memory
pub refuses_slice : {f c : ℕ} {bytes middle : List ℕ} {old new : Filling} (rest : Option (List ℕ)) (e : Error) → TakesChunks f c false (Some bytes) (Some middle) old new
    → RefusesBytes 0 middle e → RefusesRest f c true (Some bytes) rest old e
refuses_slice rest e t why gone n None h = tt
refuses_slice {middle = middle} rest e t why gone n (Some first) h =
    let s = t.goes_on.between gone n (Some first) h in
    subst (λ z. RefusesBytes (length gone + n) z e) (sym s.after.taken)
    (bytes_refused (length gone + n) s.after.cs s.after.chunks (reads_all t.goes_on.fillable.three_or_four s (t.full refl)).0 middle e why)

-- or on a stream
pub refuses_stream : {f c : ℕ} {ahead middle : Option (List ℕ)} {old new : Filling} (rest : Option (List ℕ)) (e : Error) → TakesChunks f c false ahead middle old new
    → TakesBytes middle rest (λ taken. RefusesTaken 0 taken e) → RefusesRest f c false ahead rest old e
refuses_stream {middle = middle} rest e t (taken, more, why) gone n first h =
    let s = t.goes_on.between gone n first h in (
      chunk_bytes s.after.cs ++ taken,
      Consumes-trans first middle rest (chunk_bytes s.after.cs) taken s.after.taken more,
      refused_after (length gone + n) s.after.cs s.after.chunks (reads_all t.goes_on.fillable.three_or_four s (t.full refl)).0 taken e why,
    )

-- the same of a whole image
pub reads_first : {f c n : ℕ} {old new : Option (List ℕ)} {out : List ℕ} → ReadsImage f c (length {A = RgbaPixel} [] + n) old new (output f c (reverse []) ++ out)
    → ReadsImage f c n old new out
reads_first {f} {c} {n} {old} {new} {out} r = subst (λ k. ReadsImage f c k old new out) (none_more n) r

-- from the first chunk on
pub reads_all_of : {f c last : ℕ} {ahead rest : Option (List ℕ)} {table old out : List ℕ} → IsChannels c → length old % c ≡ 0 → HoldsSeen table [] → pixel_of_lanes last ≡ start
    → ReadsRest f c ahead rest (filling table (reached last 0) old) out → ReadsImage f c (length old / c) ahead rest out
reads_all_of {f} {c} {last} {ahead} {table = table} {old = old} is whole blank opaque r =
    reads_first (r [] _ _ (start_between f c ahead table last old is whole blank opaque))

-- or refused
pub refuses_all_of : {f c last : ℕ} {ahead : Option (List ℕ)} {table old : List ℕ} (in_memory : Bool) (rest : Option (List ℕ)) (e : Error) → IsChannels c → length old % c ≡ 0 → HoldsSeen table []
    → pixel_of_lanes last ≡ start → RefusesRest f c in_memory ahead rest (filling table (reached last 0) old) e → RefusesChunks in_memory (length old / c) ahead rest e
refuses_all_of {f} {c} {last} {ahead} {table} {old} in_memory rest e is whole blank opaque r =
    subst (λ k. RefusesChunks in_memory k ahead rest e) (none_more (length old / c))
    (r [] _ _ (start_between f c ahead table last old is whole blank opaque))
