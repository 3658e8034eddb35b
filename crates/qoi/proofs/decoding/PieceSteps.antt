-- A piece more: what is unread, before and after chunks are decoded.
use Rattle.std.proofs.Common.{◌≡◌, ℕ, ◌+◌, ◌-◌, ◌*◌, ◌/◌, ◌%◌, ◌<◌, ◌≤◌, List, [], ◌∷◌, ◌++◌, length, take, drop, replicate, reverse, min, inl, inr, Option, arith, refl, sym, ap, ◌∙◌, subst, append_assoc, append-nil, length-append, take-add}
use Rattle.std.proofs.lemmas.List.{length-replicate, reverse-append, length-take, length-take-le, length-drop, take-append-le, take-take, take_all, drop-drop}
use Rattle.std.proofs.lemmas.Bool.{cases_lt}
use borrow.Rule.Slice.PartMut.{put_mid}
use Rattle.std.proofs.lemmas.Grind.{flat_map-append}
use Rattle.qoi.specs.Qoi.{Chunk, Past, RgbaPixel, Each, AreChunks, then_chunk, then_chunks}
use Rattle.qoi.specs.Raw.{IsChannels, pixel_bytes, output}
use Rattle.qoi.specs.Decoding.{ReadsImage}
use Rattle.qoi.specs.inner.Filling.{Reached, HasWritten, reached, filling, DecoderAfter, DecoderBetween}
use Rattle.qoi.specs.inner.Hashed.{pixel_of_lanes}
use Rattle.qoi.specs.pieces.Unread.{Unread, kept_count, kept_raw, bytes_left, KeepsWithin, KeepsNothing, OwesWholePixels, IsUnread, LacksRun}
use Rattle.qoi.proofs.format.ChunkSteps.{times_some, reverse-replicate, length-then_chunk, length-then_chunks}
use Rattle.qoi.proofs.format.LaneBytes.{front_put}
use Rattle.qoi.proofs.format.WholePixels.{whole_pixels, length-output, length-output_reverse, take_whole}
use Rattle.qoi.proofs.decoding.Progress.{fewer, none_written}

-- as many copies of a pixel as have so many bytes
abbrev pub copies : ℕ → ℕ → ℕ → Past
copies channels size last = replicate (size / channels) (pixel_of_lanes last)

-- chunks give no fewer pixels
pub longer : (past : Past) (cs : List Chunk) → length past ≤ length (then_chunks past cs)
longer past cs = omega (arith, length-then_chunks past cs)

-- each chunk stands before the pixels that all have
stay_within : (m : ℕ) (past : Past) (cs : List Chunk) → AreChunks cs → length (then_chunks past cs) ≤ m → Each (λ past c. length past < m) past cs
stay_within m past [] are most = tt
stay_within m past (c ∷ cs) are most =
    (omega (arith, most, longer (then_chunk past c) cs, length-then_chunk past c, times_some c are.0), stay_within m (then_chunk past c) cs are.1 most)

-- what stands after an output that isn't full
abbrev pub Closed : (f c : ℕ) (gone : Past) (start ahead : Option (List ℕ)) (table : List ℕ) (now : Reached) (given out : List ℕ) → Type 0
Closed f c gone start ahead table now given out = (all : Past) × DecoderAfter start ahead table now.last all × (given ++ take now.at out ≡ output f c (reverse all))

pub closes : {f c : ℕ} {gone : Past} {m : ℕ} {start ahead : Option (List ℕ)} {table : List ℕ} {now : Reached} (given out : List ℕ) → IsChannels c
    → DecoderBetween f c gone m start ahead (filling table now out) → now.at < length out → given ≡ output f c (reverse gone)
    → Closed f c gone start ahead table now given out
closes {f} {c} {gone} {m} {start} {ahead} {table} {now} given out is s inside so_far =
    let recent = s.recent in
    let few : length recent < m = fewer is s.filled inside in
    let least : length recent ≡ min m (length recent) = omega (arith, few) in
    let many : length (output f c (reverse recent)) ≡ now.at = length-output_reverse f c recent is ∙ ap (λ k. c * k) least ∙ sym s.filled.at_is in
    let front : take now.at out ≡ output f c (reverse recent) = s.filled.same ∙ take_whole now.at (output f c (reverse recent)) many in (
      recent ++ gone,
      s.after,
      ap (λ z. z ++ take now.at out) so_far ∙ ap (λ z. output f c (reverse gone) ++ z) front
          ∙ sym (flat_map-append (pixel_bytes f c) (reverse gone) (reverse recent)) ∙ sym (ap (output f c) (reverse-append recent gone)),
    )

-- copies of a pixel come after the bytes of the pixels before them
pub output_copies : (f c k : ℕ) (p : RgbaPixel) (past : Past) → output f c (reverse (replicate k p ++ past)) ≡ output f c (reverse past) ++ output f c (replicate k p)
output_copies f c k p past =
    ap (output f c) (reverse-append (replicate k p) past ∙ ap (λ z. reverse past ++ z) (reverse-replicate k p))
    ∙ flat_map-append (pixel_bytes f c) (reverse past) (replicate k p)

-- with nothing kept, what was given are the pixels that are gone
pub none_kept : (p : Unread) (given : List ℕ) → kept_count p ≡ 0 → given ++ kept_raw p ≡ given
none_kept p given same = ap (λ k. given ++ take k (drop p.from p.bytes)) same ∙ append-nil given

-- as many pixels are gone as the given bytes have: those of a rest are all others, and those of fewer bytes no more
pub gone_count : (f c n m : ℕ) (gone : Past) (given : List ℕ) (unstored : ℕ) → IsChannels c → given ≡ output f c (reverse gone)
    → length given + unstored ≡ c * n → (unstored ≡ c * m → length gone + m ≡ n) × (c * m ≤ unstored → length gone + m ≤ n)
gone_count f c n m gone given unstored is so_far all =
    let size : length given ≡ c * length gone = ap length so_far ∙ length-output_reverse f c gone is in
    (λ d. grind (arith, is, size, all), λ d. grind (arith, is, size, all))

-- and with those of an output as many as its bytes, too
gone_bytes : (f c m : ℕ) (gone : Past) (given out : List ℕ) → IsChannels c → given ≡ output f c (reverse gone) → length out ≡ c * m
    → c * (length gone + m) ≡ length given + length out
gone_bytes f c m gone given out is so_far many = grind (arith, is, ap length so_far, length-output_reverse f c gone is, many)

-- no bytes, no copies
pub no_copies : (c run last : ℕ) (gone : Past) → IsChannels c → run ≡ 0 → copies c run last ++ gone ≡ gone
no_copies c run last gone is none = let few : run / c ≡ 0 = grind (arith, is, none) in rw few refl

-- the whole pixels in so many bytes, behind which fewer than a pixel's follow, and how many they are by channels
pub whole_within : (c size : ℕ) → IsChannels c → (size / c * c ≤ size) × (size < size / c * c + 4) × (size / c * c ≡ c * (size / c))
whole_within c size is = grind (arith, is)

-- an output that is lent with nothing kept, and `at` bytes of a run at its front
pub record Lent (f c n m : ℕ) (start old : Option (List ℕ)) (given : List ℕ) (p : Unread) (out : List ℕ) (at : ℕ) : Type 0 where
  pub gone : Past
  pub before : DecoderBetween f c gone m start old (filling p.table (reached p.last at) out)
  pub so_far : given ≡ output f c (reverse gone)
  pub most : length gone + m ≤ n
  pub ends : c * (length gone + m) ≡ length given + length out

-- as many copies of the last pixel as are left of a run, at the front of an output
begun : {f c : ℕ} {gone : Past} {start ahead : Option (List ℕ)} {table : List ℕ} {last : ℕ} (m run : ℕ) (out : List ℕ) → IsChannels c
    → DecoderAfter start ahead table last (copies c run last ++ gone) → length out ≡ c * m → run % c ≡ 0 → run ≤ length out → take run out ≡ output f c (copies c run last)
    → DecoderBetween f c gone m start ahead (filling table (reached last run) out)
begun {f} {c} {gone} {start} {ahead} {table} {last} m run out is s size whole fits bytes =
    let recent = copies c run last in
    let many : run ≡ c * (run / c) = whole_pixels c run is whole in
    let few : run / c ≤ m = grind (arith, is, fits, size) in
    let count : length recent ≡ run / c = length-replicate (run / c) (pixel_of_lanes last) in
    let least : run / c ≡ min m (length recent) = omega (arith, few, count) in
    let long : length (output f c recent) ≡ run = length-output f c recent is ∙ ap (λ k. c * k) count ∙ sym many in
    record {
      recent = recent;
      after = s;
      stays_below = stay_within (length gone + m) [] s.cs s.chunks (omega (arith, ap length s.pixels, length-append recent gone, count, few));
      filled = record {
        room = size;
        at_is = many ∙ ap (λ k. c * k) least;
        same = bytes ∙ sym (take_all run (output f c recent) (omega (arith, long))) ∙ ap (λ z. take run (output f c z)) (sym (reverse-replicate (run / c) (pixel_of_lanes last)));
      };
    }

-- the same of what is unread
run_lent : {f c n : ℕ} {start old : Option (List ℕ)} {given : List ℕ} (p : Unread) (m : ℕ) (out : List ℕ) → IsChannels c → IsUnread f c n start old given p
    → kept_count p ≡ 0 → 0 < p.unstored → length out ≡ c * m → length out ≤ p.unstored → p.run % c ≡ 0 → p.run ≤ length out → take p.run out ≡ output f c (copies c p.run p.last)
    → Lent f c n m start old given p out p.run
run_lent {f} {c} {n} {start} {old} {given} p m out is h same some size fits whole inside bytes =
    let (gone, stands, all) = h.goes_on some in
    let so_far : given ≡ output f c (reverse gone) = sym (none_kept p given same) ∙ all in
    record {
      gone = gone;
      before = begun m p.run out is stands size whole inside bytes;
      so_far = so_far;
      most = (gone_count f c n m gone given p.unstored is so_far (omega (arith, same, h.size))).1 (subst (λ k. k ≤ p.unstored) size fits);
      ends = gone_bytes f c m gone given out is so_far size;
    }

-- with no run
pub lent : {f c n : ℕ} {start old : Option (List ℕ)} {given : List ℕ} {p : Unread} (m : ℕ) (out : List ℕ) → IsChannels c → IsUnread f c n start old given p
    → KeepsNothing p → 0 < p.unstored → length out ≡ c * m → length out ≤ p.unstored → Lent f c n m start old given p out 0
lent {f} {c} {n} {start} {old} {given} {p} m out is h none some size fits =
    let few : p.run / c ≡ 0 = grind (arith, is, none) in
    subst (Lent f c n m start old given p out) none.1 (run_lent p m out is h none.0 some size fits (rw none.1 (none_written c is)) (omega (arith, none)) (rw (few, none.1) refl))

-- the whole pixels of an output with a run in front are lent
pub piece_lent : {f c n : ℕ} {start old : Option (List ℕ)} {given : List ℕ} (p : Unread) (before out : List ℕ) → IsChannels c → IsUnread f c n start old given p
    → kept_count p ≡ 0 → OwesWholePixels c p → 512 ≤ length before → length before + 256 ≤ p.unstored → length out ≡ length before
    → HasWritten f c before 0 out (0 + c * (p.run / c)) (replicate (p.run / c) (pixel_of_lanes p.last))
    → Lent f c n (length before / c) start old given p (take (length before / c * c) out) p.run
piece_lent {c = c} p before out is h same whole long fits same_size written =
    let size = length before / c * c in
    let within = whole_within c (length before) is in
    let all : length (take size out) ≡ size = length-take-le size out (omega (arith, same_size, within)) in
    let run : p.run ≤ size = grind (arith, is, long, within, whole.3) in
    let many : p.run ≡ 0 + c * (p.run / c) = omega (arith, whole_pixels c p.run is whole.2) in
    let stored = take-take p.run size out run ∙ ap (λ k. take k out) many ∙ written.same in
    run_lent p (length before / c) (take size out) is h same (omega (arith, fits)) (all ∙ within.2) (omega (arith, all, within, fits)) whole.2 (omega (arith, all, run)) stored

-- the rest of a run is kept
pub run_kept : {f c n : ℕ} {start now : Option (List ℕ)} {given : List ℕ} (p : Unread) (bytes : List ℕ) → IsChannels c → IsUnread f c n start now given p
    → kept_count p ≡ 0 → 0 < p.run → OwesWholePixels c p → 256 ≤ length bytes
    → HasWritten f c p.bytes 0 bytes (0 + c * (p.run / c)) (replicate (p.run / c) (pixel_of_lanes p.last))
    → IsUnread f c n start now given (record p { bytes = bytes; from = 0; to = p.run; run = 0; unstored = p.unstored - p.run })
run_kept {f} {c} {n} {start} {now} {given} p bytes is h same some whole room written =
    let fits : p.run < p.unstored = whole.4 some in
    let (gone, stands, all) = h.goes_on (omega (arith, fits)) in
    let recent = copies c p.run p.last in
    let many : p.run - 0 ≡ 0 + c * (p.run / c) = omega (arith, whole_pixels c p.run is whole.2) in
    let stored : take (p.run - 0) bytes ≡ output f c recent = ap (λ k. take k bytes) many ∙ written.same in
    record {
      size = omega (arith, same, h.size, fits);
      goes_on = λ _. (
        recent ++ gone,
        subst (DecoderAfter start now p.table p.last) (sym (no_copies c 0 p.last (recent ++ gone) is refl)) stands,
        ap (λ z. given ++ z) stored ∙ ap (λ z. z ++ output f c recent) (sym (none_kept p given same) ∙ all) ∙ sym (output_copies f c (p.run / c) (pixel_of_lanes p.last) gone),
      );
      ends = λ none. absurd (omega (arith, none, fits));
    }

-- most of an output
pub front_most : (c : ℕ) (out : List ℕ) → IsChannels c → (length (take (length out / c * c) out) ≤ length out) × (length out < length (take (length out / c * c) out) + 4)
front_most c out is =
    let within = whole_within c (length out) is in
    let size = length-take-le (length out / c * c) out within.0 in
    (omega (arith, size, within), omega (arith, size, within))

-- the whole pixels at the front of an output are lent
pub front_lent : {f c n : ℕ} {start old : Option (List ℕ)} {given : List ℕ} (p : Unread) (out : List ℕ) → IsChannels c → IsUnread f c n start old given p
    → KeepsNothing p → length out ≤ bytes_left p → 0 < length out
    → Lent f c n (length out / c) start old given p (take (length out / c * c) out) 0
front_lent {c = c} p out is h none fits some =
    let within = whole_within c (length out) is in
    lent (length out / c) (take (length out / c * c) out) is h none (omega (arith, none, fits, some)) (length-take-le (length out / c * c) out within.0 ∙ within.2) (omega (arith, none, fits, length-take (length out / c * c) out))

-- a piece of what was lent was taken
pub piece_read : {f c n : ℕ} {start old new : Option (List ℕ)} {given : List ℕ} {p : Unread} {table : List ℕ} (gone : Past)
    (now rest : List ℕ) (to : Reached) (run : ℕ) → IsUnread f c n start old given p → kept_count p ≡ 0 → given ≡ output f c (reverse gone)
    → LacksRun f c start new table to.last run (output f c (reverse gone) ++ take to.at now) → to.at ≤ length now → to.at < p.unstored
    → IsUnread f c n start new (given ++ take to.at (now ++ rest))
    (record p { table = table; last = to.last; run = run; unstored = p.unstored - to.at })
piece_read {f} {c} {n} {start} {old} {new} {given} {p} {table} gone now rest to run h same so_far t inside fits =
    let at = to.at in
    let front : take at (now ++ rest) ≡ take at now = take-append-le at now rest inside in
    let then : Unread = record p { table = table; last = to.last; run = run; unstored = p.unstored - at } in
    let more = given ++ take at (now ++ rest) in
    let size : length more ≡ length given + at = length-append given (take at (now ++ rest)) ∙ ap (λ k. length given + k) (ap length front ∙ length-take-le at now inside) in
    record {
      size = omega (arith, size, h.size, fits);
      goes_on = λ some. (t.0, t.1, none_kept then more same ∙ ap (λ z. given ++ z) front ∙ ap (λ z. z ++ take at now) so_far ∙ t.2);
      ends = λ none. absurd (omega (arith, none, fits));
    }

-- chunks that end before the output leave nothing of a run
pub piece_stops : {f c n : ℕ} {gone : Past} {start ahead : Option (List ℕ)} {table : List ℕ} {now : Reached} (out : List ℕ) → IsChannels c → now.at < length out
    → DecoderBetween f c gone n start ahead (filling table now out) → LacksRun f c start ahead table now.last 0 (output f c (reverse gone) ++ take now.at out)
piece_stops {f} {c} {gone = gone} {start} {ahead} {table} {now} out is inside h =
    let (all, after, e) = closes (output f c (reverse gone)) out is h inside refl in
    (all, subst (DecoderAfter start ahead table now.last) (sym (no_copies c 0 now.last all is refl)) after, e)

-- chunks were decoded into what was lent
pub long_read : {f c n m : ℕ} {start old new : Option (List ℕ)} {given : List ℕ} {p : Unread} {out : List ℕ} {table : List ℕ} {to : Reached}
    (now rest : List ℕ) → IsChannels c → IsUnread f c n start old given p → KeepsNothing p → (l : Lent f c n m start old given p out 0)
    → DecoderBetween f c l.gone m start new (filling table to now) → to.at < length now → length now ≤ p.unstored
    → IsUnread f c n start new (given ++ take to.at (now ++ rest)) (record p { table = table; last = to.last; unstored = p.unstored - to.at })
long_read {f} {c} {n} {m} {start} {old} {new} {given} {p} {out} {table} {to} now rest is h same l after inside fits =
    rw same.1 (piece_read l.gone now rest to 0 h same.0 l.so_far (piece_stops now is inside after) (omega (arith, inside)) (omega (arith, inside, fits)))

-- chunks were decoded into the front of what is kept
pub kept_read : {f c n m : ℕ} {start old new : Option (List ℕ)} {given : List ℕ} {p : Unread} {out : List ℕ} {table : List ℕ} {to : Reached}
    (now rest : List ℕ) → IsChannels c → IsUnread f c n start old given p → KeepsNothing p → (l : Lent f c n m start old given p out 0)
    → DecoderBetween f c l.gone m start new (filling table to now) → to.at < length now → length now < p.unstored
    → IsUnread f c n start new given (record p { table = table; last = to.last; bytes = now ++ rest; from = 0; to = to.at; unstored = p.unstored - to.at })
kept_read {f} {c} {n} {m} {start} {old} {new} {given} {p} {out} {table} {to} now rest is h same l after inside fits =
    let (all, stands, e) = closes given now is after inside l.so_far in
    let at : to.at - 0 ≡ to.at = omega arith in
    record {
      size = omega (arith, same, h.size, inside, fits);
      goes_on = λ some. (
        all,
        subst (DecoderAfter start new table to.last) (sym (no_copies c p.run to.last all is same.1)) stands,
        ap (λ k. given ++ take k (now ++ rest)) at ∙ ap (λ z. given ++ z) (take-append-le to.at now rest (omega (arith, inside))) ∙ e,
      );
      ends = λ none. absurd (omega (arith, none, inside, fits));
    }

-- the rest of the image are the pixels that are missing
pub rest_count : {f c n m : ℕ} {start old : Option (List ℕ)} {given : List ℕ} {p : Unread} {out : List ℕ} → IsChannels c → IsUnread f c n start old given p
    → KeepsNothing p → (l : Lent f c n m start old given p out 0) → p.unstored ≡ c * m → length l.gone + m ≡ n
rest_count {f} {c} {n} {m} {start} {old} {given} {p} is h same l all =
    (gone_count f c n m l.gone given p.unstored is l.so_far (omega (arith, same, h.size))).0 all

-- the rest of the image was decoded and is kept, and the end marker was taken
pub rest_read : {f c n m : ℕ} {start old new : Option (List ℕ)} {given : List ℕ} {p : Unread} {out : List ℕ} {table : List ℕ} {last : ℕ}
    (now : List ℕ) → IsChannels c → IsUnread f c n start old given p → KeepsNothing p → (l : Lent f c n m start old given p out 0)
    → ReadsImage f c (length l.gone + m) start new (output f c (reverse l.gone) ++ take p.unstored now)
    → p.unstored ≤ length now → p.unstored ≡ c * m
    → IsUnread f c n start new given (record p { table = table; last = last; bytes = now; from = 0; to = p.unstored; unstored = 0 })
rest_read {f} {c} {n} {m} {start} {old} {new} {given} {p} {out} {table} {last} now is h same l read fits all =
    let count : length l.gone + m ≡ n = rest_count is h same l all in
    let size : p.unstored - 0 ≡ p.unstored = omega arith in
    record {
      size = omega (arith, same, h.size);
      goes_on = λ some. absurd (omega arith);
      ends = λ _. rw (size, l.so_far, ← count) read;
    }

-- the rest of the image are whole pixels
pub rest_whole : {f c n : ℕ} {start now : Option (List ℕ)} {given : List ℕ} {p : Unread} → IsChannels c → IsUnread f c n start now given p → kept_count p ≡ 0
    → 0 < p.unstored → p.unstored ≡ c * (p.unstored / c)
rest_whole {f} {c} {n} {start} {now} {given} {p} is h same some =
    let (gone, stands, all) = h.goes_on some in
    let size : length given ≡ c * length gone = ap length (sym (none_kept p given same) ∙ all) ∙ length-output_reverse f c gone is in
    let all = h.size in
    grind (arith, is, size, all, same)

-- kept bytes were given
pub gives : {f c n : ℕ} {start now : Option (List ℕ)} {given : List ℕ} (p new : Unread) (k : ℕ) → new ≡ record p { from = p.from + k } → k ≤ p.to - p.from
    → KeepsWithin p → IsUnread f c n start now given p → IsUnread f c n start now (given ++ take k (kept_raw p)) new
gives {f} {c} {n} {start} {now} {given} p new k is few within h =
    let then : Unread = record p { from = p.from + k } in
    let rest = drop p.from p.bytes in
    let m = p.to - (p.from + k) in
    let parts : p.to - p.from ≡ k + m = omega (arith, few) in
    let front : take k (kept_raw p) ≡ take k rest = take-take k (p.to - p.from) rest few in
    let whole : take k (kept_raw p) ++ kept_raw then ≡ kept_raw p =
    ap (λ z. z ++ kept_raw then) front ∙ ap (λ z. take k rest ++ take m z) (sym (drop-drop k p.from p.bytes))
    ∙ sym (take-add k m rest) ∙ ap (λ i. take i rest) (sym parts) in
    let all : (given ++ take k (kept_raw p)) ++ kept_raw then ≡ given ++ kept_raw p = append_assoc given (take k (kept_raw p)) (kept_raw then) ∙ ap (λ z. given ++ z) whole in
    let long : length (take k (kept_raw p)) ≡ k = length-take-le k (kept_raw p) (omega (arith, few, length-take-le (p.to - p.from) rest (omega (arith, within, length-drop p.from p.bytes)))) in
    subst (IsUnread f c n start now (given ++ take k (kept_raw p))) (sym is) (record {
      size = omega (arith, length-append given (take k (kept_raw p)), long, parts, h.size);
      goes_on = λ some. let (gone, stands, e) = h.goes_on some in (gone, stands, all ∙ e);
      ends = λ none. subst (ReadsImage f c n start now) (sym all) (h.ends none);
    })

-- how many bytes are kept
pub kept_long : (p : Unread) → KeepsWithin p → length (kept_raw p) ≡ p.to - p.from
kept_long p within = length-take-le (p.to - p.from) (drop p.from p.bytes) (omega (arith, within, length-drop p.from p.bytes))

-- of an image that isn't decoded whole: the pixels of its chunks so far, and others are missing
pub record GoesOn (f c n : ℕ) (start ahead : Option (List ℕ)) (table : List ℕ) (last : ℕ) (given : List ℕ) : Type 0 where
  pub all : Past
  pub stands : DecoderAfter start ahead table last all
  pub behind : List ℕ
  pub bytes_are : given ++ behind ≡ output f c (reverse all)
  pub fewer : length all < n

-- pixels are missing behind a run
run_short : (c : ℕ) (p : Unread) → OwesWholePixels c p → 0 < p.unstored → p.run < p.unstored
run_short c p whole some = elim (cases_lt 0 p.run) [ inl run ↦ whole.4 run | inr none ↦ omega (arith, none, some) ]

pub still_goes : {f c n : ℕ} {start now : Option (List ℕ)} {given : List ℕ} (p : Unread) → IsChannels c → IsUnread f c n start now given p → OwesWholePixels c p → 0 < p.unstored
    → GoesOn f c n start now p.table p.last given
still_goes {f} {c} {n} {start} {now} {given} p is h whole some =
    let (gone, stands, e) = h.goes_on some in
    let fewer = run_short c p whole some in
    let k = p.run / c in
    let px = pixel_of_lanes p.last in
    let one = output f c (replicate k px) in
    let bytes : given ++ (kept_raw p ++ one) ≡ output f c (reverse (replicate k px ++ gone)) =
    sym (append_assoc given (kept_raw p) one) ∙ ap (λ z. z ++ one) e ∙ sym (output_copies f c k px gone) in
    let size : length given + length (kept_raw p) ≡ c * length gone = sym (length-append given (kept_raw p)) ∙ ap length e ∙ length-output_reverse f c gone is in
    let count : length (replicate k px ++ gone) ≡ k + length gone = length-append (replicate k px) gone ∙ ap (λ m. m + length gone) (length-replicate k px) in
    record {
      all = replicate k px ++ gone;
      stands = stands;
      behind = kept_raw p ++ one;
      bytes_are = bytes;
      fewer = grind (arith, is, size, h.size, count, length-take (p.to - p.from) (drop p.from p.bytes), fewer);
    }

-- two parts of a piece that were read
pub read_two : (given front more : List ℕ) (i j : ℕ) → i ≤ length front → j ≤ length more
    → (given ++ take i front) ++ take j more ≡ given ++ take (i + j) (put_mid i (length front - i) front more)
read_two given front more i j within some =
    append_assoc given (take i front) (take j more) ∙ ap (λ z. given ++ z) (sym (front_put i j (length front - i) front more within some))

-- what whole pixels are left of whole ones
pub minus_whole : (c a b : ℕ) → IsChannels c → a % c ≡ 0 → b % c ≡ 0 → (a - b) % c ≡ 0
minus_whole c a b is h g = grind (arith, is)
