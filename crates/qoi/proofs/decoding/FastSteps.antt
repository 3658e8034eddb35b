-- A chunk more, while there is room ahead.
use Rattle.std.proofs.Common.{◌≡◌, ℕ, Option, Some, None, take-append-drop, ◌+◌, ◌-◌, ◌*◌, ◌/◌, ◌%◌, ◌<◌, ◌≤◌, inl, inr, List, ◌++◌, length, take, drop, get_or, Bool, true, false, cond, nat_eq, arith, refl, sym, ap, ◌∙◌, subst, ◌∷◌, append_assoc}
use Rattle.std.proofs.lemmas.Bool.{cases_lt}
use Rattle.std.proofs.lemmas.Bool.Decides.{nat_tests}
use Rattle.std.proofs.lemmas.List.{get_or-drop, get_or-take, length-take-le, length-drop, drop-drop, drop-append-le}
use Rattle.std.specs.Io.KnownBytes.{Consumes}
use mir.Val.{bool_byte}
use Rattle.qoi.specs.Qoi.{Past, AreBytes, chunk_bytes}
use Rattle.qoi.specs.Raw.{IsChannels}
use Rattle.qoi.specs.inner.Filling.{Progress, reached, filling, taken_further, HasCopies, HasFilled, HasAhead, DecodesChunk, DecoderBetween, FastStep, FastChunks, IsAdvance}
use Rattle.qoi.specs.inner.Hashed.{pixel_of_lanes, HoldsSeen, IsAfterShort, IsAfterFull}
use Rattle.qoi.proofs.format.WholePixels.{take_whole}
use Rattle.qoi.proofs.decoding.FilledBuffer.{filled_copies, block_fits}
use Rattle.qoi.proofs.decoding.FirstChunk.{PutsCopies, HasSize, decodes_short, decodes_full}
use Rattle.qoi.proofs.decoding.Progress.{goes_on, taken_as, split_taken}

-- how many pixels a short chunk has, by its first byte and its number of output bytes
record ShortCount (c b size : ℕ) : Type 0 where
  pub count : ℕ
  pub size_is : size ≡ c * count
  pub once : b < 192 → count ≡ 1
  pub often : 192 ≤ b → count + 191 ≡ b
  pub fits : count ≤ 16 / c
  pub low : b < 254

-- a vector holds a pixel, and five at most
pub in_vector : (c : ℕ) → IsChannels c → (1 ≤ 16 / c) × (16 / c ≤ 5)
in_vector c is = grind (arith, is)

-- each short chunk has some
short_count : (c b size : ℕ) → IsChannels c → b ≤ 191 + 16 / c → IsAdvance c b size → ShortCount c b size
short_count c b size is short size_is =
    let block = in_vector c is in
    elim (cases_lt b 192) [
      | inl less ↦ record { count = 1; size_is = omega (arith, size_is.once less); once = λ l. refl; often = λ l. absurd (omega arith); fits = block.0; low = omega arith }
      | inr more ↦ let low : b < 254 = omega arith in
          record { count = b - 191; size_is = size_is.run more low; once = λ l. absurd (omega arith); often = λ l. omega arith; fits = omega arith; low = low }
    ]

-- the pixels of any run have fewer bytes than the vectors of any run
pub run_below : (c b : ℕ) → IsChannels c → b < 254 → c * (b - 191) < 256
run_below c b is low = grind (arith, is)

-- the byte after a chunk, of the two that may come there: after a luma, or an RGBA chunk, one more is taken
pub next_byte : (more : Bool) (bytes : List ℕ) (one two to size next : ℕ) → two ≡ one + 1 → to ≡ one + size → size ≡ bool_byte more
    → next ≡ cond more (get_or bytes two 0) (get_or bytes one 0) → next ≡ get_or bytes to 0
next_byte true bytes one two to size next after sum s e = let at : to ≡ two = omega (arith, sum, s, after) in rw at e
next_byte false bytes one two to size next after sum s e = let at : to ≡ one = omega (arith, sum, s) in rw at e

-- a luma has one byte more
pub one_more : (luma : Bool) (size : ℕ) → size ≡ bool_byte luma → size ≤ 1
one_more true size s = omega (arith, s)
one_more false size s = omega (arith, s)

-- an RGBA chunk has one byte more
pub full_size : (b size : ℕ) → b < 256 → size ≡ bool_byte (nat_eq b 255) → (b < 255 → size ≡ 0) × (255 ≤ b → size ≡ 1)
full_size b size low is = (λ less. grind (arith, nat_tests), λ more. grind (arith, nat_tests))

-- A chunk's pixel was put into the table and is stored, as often as is asked for, `most` times at most;
-- its first byte is at hand, and so is the byte after the chunk.
pub record Stores {N F : ℕ} (most : ℕ) (bytes : List ℕ) (now : Progress N F) (table out : List ℕ) (new : Progress N F) (table' out' : List ℕ) : Type 0 where
  pub put : (past : Past) → HoldsSeen table past → HoldsSeen table' (pixel_of_lanes new.last ∷ past)
  pub stored : (count : ℕ) → count ≤ most → HasCopies F N now.at count new.last out out'
  pub size : length out' ≡ length out
  pub next : new.next ≡ get_or bytes new.taken 0
  pub fits : AreBytes bytes

-- a chunk of k bytes was taken, its pixel put at its index position and written `count` times
pub fast_step : {N F room : ℕ} {bytes table table' out out' : List ℕ} (now new : Progress N F) (count k : ℕ) → IsChannels N → now.at % N ≡ 0
    → now.at < length out → now.at + N * count ≤ length out → length out' ≡ length out → new.at ≡ now.at + N * count → N * count ≤ room
    → ((past : Past) → HoldsSeen table past → HoldsSeen table' (pixel_of_lanes new.last ∷ past))
    → HasCopies F N now.at count new.last out out'
    → new.next ≡ get_or bytes new.taken 0 → new.next < 256 → new.taken ≡ now.taken + k
    → (now.next ≡ get_or (drop now.taken bytes) 0 0
    → PutsCopies F N (pixel_of_lanes new.last) count (filling table (reached now.last now.at) out) (filling table' (reached new.last (now.at + N * count)) out')
    → DecodesChunk F N (take k (drop now.taken bytes)) (filling table (reached now.last now.at) out) (filling table' (reached new.last (now.at + N * count)) out'))
    → FastStep k k room bytes now table out new table' out'
fast_step {N} {F} {bytes = bytes} {table} {table'} {out} {out'} now new count k is whole inside fits size end few put written next byte taken decodes =
    let copies = λ (m : ℕ) (past : Past) (s : HasFilled F N m out now.at past). filled_copies F N m out out' now.at count (pixel_of_lanes new.last) past is inside fits size written s in
    record {
      between = λ gone n start h.
          let first : now.next ≡ get_or (drop now.taken bytes) 0 0 = h.next_is ∙ ap (λ i. get_or bytes i 0) (omega arith) ∙ sym (get_or-drop now.taken bytes 0 0) in
          let decoded = decodes first (record { last_is = refl; table = put; filled = copies }) in
          record {
            between = subst (λ at. DecoderBetween F N gone n start (Some (drop new.taken bytes)) (filling table' (reached new.last at) out')) (sym end)
                (goes_on {old = filling table (reached now.last now.at) out} {new = filling table' (reached new.last (now.at + N * count)) out'} is h.between inside decoded
                (split_taken k (ap (λ m. drop m bytes) taken ∙ sym (drop-drop k now.taken bytes))));
            next_is = next;
          };
      taken = (omega (arith, taken), omega (arith, taken));
      written = (omega (arith, end), omega (arith, end, few));
      whole = rw end (grind (arith, is, whole));
      byte = byte;
    }

-- a step that goes on less far
pub step_within : {N F i k l n r t : ℕ} {bytes table table' out out' : List ℕ} {old new : Progress N F} → FastStep i l r bytes old table out new table' out' → k ≤ i → l ≤ n → r ≤ t
    → FastStep k n t bytes old table out new table' out'
step_within a least most room = record {
  between = a.between;
  taken = (omega (arith, a.taken, least), omega (arith, a.taken, most));
  written = (a.written.0, omega (arith, a.written, room));
  whole = a.whole;
  byte = a.byte;
}

-- an RGB or RGBA chunk of `size` bytes, with the pixel that it has after the last one
pub full_step : {N F k : ℕ} {bytes table table' out out' : List ℕ} (now new : Progress N F) (size : ℕ) → HasAhead k 16 bytes out now → 6 ≤ k
    → Stores 1 bytes now table out new table' out' → 254 ≤ now.next → new.at ≡ now.at + N → new.taken ≡ now.taken + size
    → (now.next ≡ 254 → size ≡ 4) → (now.next ≡ 255 → size ≡ 5)
    → IsAfterFull now.next (take (length bytes - now.taken) (drop now.taken bytes)) (pixel_of_lanes now.last) (pixel_of_lanes new.last)
    → FastStep 4 5 4 bytes now table out new table' out'
full_step {N} {bytes = bytes} {out = out} now new size ahead some s full at taken four five px =
    let is = ahead.three_or_four in
    let one = (in_vector N is).0 in
    let rest = drop now.taken bytes in
    let fits : AreBytes rest = λ i. rw (get_or-drop now.taken bytes i 0) (s.fits (now.taken + i)) in
    let read = rw (take_whole (length bytes - now.taken) rest (length-drop now.taken bytes)) at px in
    let bounds : (4 ≤ size) × (size ≤ 5) = elim (cases_lt now.next 255) [
      | inl less ↦ let e = four (omega (arith, less, full)) in (omega (arith, e), omega (arith, e))
      | inr more ↦ let e = five (omega (arith, more, ahead.byte)) in (omega (arith, e), omega (arith, e))
    ] in
    step_within (fast_step {room = 4} now new 1 size is ahead.whole (omega (arith, ahead.room_is)) (block_fits N now.at 1 (length out) is one ahead.room_is) s.size
    (omega (arith, at)) (grind (arith, is)) s.put (s.stored 1 (omega arith)) s.next (omega (arith, s.next, s.fits new.taken)) taken
    (λ first. decodes_full rest now.next size (omega (arith, ahead.input_is, some, length-drop now.taken bytes)) fits first full four five read)) bounds.0 bounds.1 (omega arith)

-- a short chunk of `size` bytes, with the pixel that it has after the last one
pub short_step : {N F k : ℕ} {bytes table table' out out' : List ℕ} (now new : Progress N F) (size adds : ℕ) → HasAhead k 16 bytes out now → 2 ≤ k
    → Stores (16 / N) bytes now table out new table' out' → now.next ≤ 191 + 16 / N → new.at ≡ now.at + adds → IsAdvance N now.next adds → new.taken ≡ now.taken + size
    → HasSize now.next size
    → IsAfterShort now.next (get_or bytes (now.taken + 1) 0) table (pixel_of_lanes now.last) (pixel_of_lanes new.last)
    → FastStep size size 16 bytes now table out new table' out'
short_step {N} {bytes = bytes} {out = out} now new size adds ahead some s short at adds_are taken sized px =
    let is = ahead.three_or_four in
    let n = short_count N now.next adds is short adds_are in
    let rest = drop now.taken bytes in
    let long : 2 ≤ length rest = omega (arith, ahead.input_is, some, length-drop now.taken bytes) in
    fast_step {room = 16} now new n.count size is ahead.whole (omega (arith, ahead.room_is)) (block_fits N now.at n.count (length out) is n.fits ahead.room_is) s.size
    (at ∙ ap (λ k. now.at + k) n.size_is) (omega (arith, block_fits N 0 n.count 16 is n.fits (omega arith))) s.put (s.stored n.count n.fits) s.next
    (omega (arith, s.next, s.fits new.taken)) taken
    (λ first. decodes_short rest now.next (get_or bytes (now.taken + 1) 0) size n.count long first (sym (get_or-drop now.taken bytes 1 0)) n.low (s.fits (now.taken + 1))
    sized n.once n.often px)

-- two steps are one
pub step_on : {N F i j k l m n r s t : ℕ} {bytes table table' table'' out out' out'' : List ℕ} {old middle new : Progress N F} → FastStep i l r bytes old table out middle table' out'
    → FastStep j m s bytes middle table' out' new table'' out'' → old.taken + k ≤ new.taken → new.taken ≤ old.taken + n → new.at ≤ old.at + t
    → FastStep k n t bytes old table out new table'' out''
step_on a b least most room = record {
  between = λ gone n start h. b.between gone n start (a.between gone n start h);
  taken = (least, most);
  written = (omega (arith, a.written, b.written), room);
  whole = b.whole;
  byte = b.byte;
}

-- the same of numbers
pub step_then : {N F i j l m r s : ℕ} {bytes table table' table'' out out' out'' : List ℕ} {old middle new : Progress N F} → FastStep i l r bytes old table out middle table' out'
    → FastStep j m s bytes middle table' out' new table'' out'' → FastStep (i + j) (l + m) (r + s) bytes old table out new table'' out''
step_then a b = step_on a b (omega (arith, a.taken, b.taken)) (omega (arith, a.taken, b.taken)) (omega (arith, a.written, b.written))

-- a step more, before the end of the bytes and of the output
pub step_more : {N F i l r : ℕ} {bytes table table' table'' out out' out'' : List ℕ} {old middle new : Progress N F} → FastChunks bytes old table out middle table' out'
    → FastStep i l r bytes middle table' out' new table'' out'' → new.taken < length bytes → new.at < length out → FastChunks bytes old table out new table'' out''
step_more a b within below = step_on a b (omega (arith, a.taken, b.taken)) (omega (arith, within)) (omega (arith, below))

-- more chunks were taken after others
pub chunks_then : {N F : ℕ} {bytes table table' table'' out out' out'' : List ℕ} {old middle new : Progress N F} → length out' ≡ length out → FastChunks bytes old table out middle table' out'
    → FastChunks bytes middle table' out' new table'' out'' → FastChunks bytes old table out new table'' out''
chunks_then size a b = step_on a b (omega (arith, a.taken, b.taken)) (omega (arith, a.taken, b.taken)) (omega (arith, a.written, b.written, size))

-- what follows chunks of the front of the bytes
front_follows : (start : Option (List ℕ)) (before all bytes : List ℕ) (k from to : ℕ) → k ≤ length bytes → from ≤ k → to ≤ k → Consumes start (Some (drop from bytes)) before
    → before ++ drop from (take k bytes) ≡ all ++ drop to (take k bytes) → Consumes start (Some (drop to bytes)) all
front_follows None before all bytes k from to within first last taken e = tt
front_follows (Some whole) before all bytes k from to within first last taken e =
    taken ∙ ap (λ z. before ++ z) (parts from first) ∙ sym (append_assoc before (drop from (take k bytes)) (drop k bytes)) ∙ ap (λ z. z ++ drop k bytes) e
    ∙ append_assoc all (drop to (take k bytes)) (drop k bytes) ∙ ap (λ z. all ++ z) (sym (parts to last))
  where
    parts : (i : ℕ) → i ≤ k → drop i bytes ≡ drop i (take k bytes) ++ drop k bytes
    parts i less = ap (drop i) (sym (take-append-drop k bytes)) ∙ drop-append-le i (take k bytes) (drop k bytes) (omega (arith, less, length-take-le k bytes within))

-- chunks of the front of the bytes are chunks of all of them
pub front_chunks : {N F : ℕ} {bytes table table' out out' : List ℕ} {old new : Progress N F} (k : ℕ) → k ≤ length bytes → old.taken < k
    → FastChunks (take k bytes) old table out new table' out' → FastChunks bytes old table out new table' out'
front_chunks {bytes = bytes} {old = old} {new = new} k within first s =
    let size = length-take-le k bytes within in
    let last : new.taken < k = omega (arith, s.taken, size, first) in
    record {
      between = λ gone n start h.
          let before = chunk_bytes h.between.after.cs in
          let t = s.between gone n (Some (before ++ drop old.taken (take k bytes)))
          (record { between = taken_as h.between refl; next_is = h.next_is ∙ sym (get_or-take k bytes old.taken 0 first) }) in
          record {
            between = taken_as t.between
                (front_follows start before (chunk_bytes t.between.after.cs) bytes k old.taken new.taken within (omega (arith, first)) (omega (arith, last)) h.between.after.taken t.between.after.taken);
            next_is = t.next_is ∙ get_or-take k bytes new.taken 0 last;
          };
      taken = (s.taken.0, omega (arith, last, within));
      written = s.written;
      whole = s.whole;
      byte = s.byte;
    }

-- none of the bytes that are taken is left out at first
pub step_at_first : {N F i k l n r t : ℕ} {bytes table table' out out' : List ℕ} {new : Progress N F} (p : Progress N F)
    → FastStep i l r bytes (taken_further 0 p) table out new table' out' → k ≤ i → l ≤ n → r ≤ t → FastStep k n t bytes p table out new table' out'
step_at_first {N} {F} {i} {k} {l} {n} {r} {t} {bytes} {table} {table'} {out} {out'} {new} p step least most room =
    let to : (m : ℕ) → Progress N F = λ m. record { last = p.last; taken = m; at = p.at; next = p.next } in
    let same : p.taken + 0 ≡ p.taken = omega arith in
    step_within (subst (λ m. FastStep i l r bytes (to m) table out new table' out') same step) least most room
