-- A piece that is decoded in place, up to a run that goes on past its end.
use Rattle.std.proofs.Common.{◌≡◌, ℕ, ◌+◌, ◌-◌, ◌*◌, ◌/◌, ◌%◌, ◌<◌, ◌≤◌, List, [], ◌∷◌, ◌++◌, length, take, drop, get_or, slice_index, replicate, reverse, arith, refl, sym, ap, ◌∙◌, subst, append_assoc, Option, Some}
use Rattle.std.specs.Io.KnownBytes.{Consumes}
use Rattle.std.proofs.KnownBytes.{Consumes-trans}
use Rattle.std.proofs.lemmas.List.{get_or-drop, length-drop, drop-drop, replicate-append-replicate}
use Rattle.qoi.specs.Qoi.{Run, Past, RgbaPixel, bytes_of, chunk_bytes, then_chunk}
use Rattle.qoi.specs.Raw.{IsChannels, output}
use Rattle.qoi.specs.inner.Hashed.{pixel_of_lanes, HoldsSeen, HasSeen}
use Rattle.qoi.specs.inner.Filling.{Reached, Filling, filling, HasWritten, DecoderAfter, DecoderBetween}
use Rattle.qoi.specs.pieces.Unread.{LacksRun, TakesInPlace}
use Rattle.qoi.proofs.format.SeenTable.{holds_seen_copies, previous_copies}
use Rattle.qoi.proofs.decoding.FirstChunk.{front}
use Rattle.qoi.proofs.decoding.Progress.{after_chunk, taken_as, split_taken, front_behind}
use Rattle.qoi.proofs.decoding.PieceSteps.{copies, closes, output_copies}

-- a run more
then_run : {start ahead rest : Option (List ℕ)} {table table' : List ℕ} {last : ℕ} {all : Past} (count : ℕ) → 0 < count → count ≤ 62 → DecoderAfter start ahead table last all
    → ((past : Past) → HoldsSeen table past → HoldsSeen table' (pixel_of_lanes last ∷ past))
    → Consumes ahead rest (bytes_of (Run count)) → DecoderAfter start rest table' last (replicate count (pixel_of_lanes last) ++ all)
then_run {start} {rest = rest} {table' = table'} {last} {all} count some most s put took =
    let p = pixel_of_lanes last in
    let same : replicate count p ++ all ≡ then_chunk all (Run count) = ap (λ q. replicate count q ++ all) s.has_seen.last_is in
    subst (DecoderAfter start rest table' last) (sym same) (after_chunk (Run count) (some, most) s
    (subst (HasSeen table' last) same (record { table_is = holds_seen_copies table' p all count some (put all s.has_seen.table_is); last_is = sym (previous_copies count p all some) })) took)

-- what is left of whole pixels behind whole pixels
pub times_rest : (c size at : ℕ) → IsChannels c → size % c ≡ 0 → at % c ≡ 0 → size - at ≡ c * ((size - at) / c)
times_rest c size at is all now = grind (arith, is)

-- of a run so many copies are left that together they are all
parts_of_run : (c k count run rest : ℕ) (p : RgbaPixel) → IsChannels c → rest ≡ c * k → rest ≤ c * count → run ≡ c * count - rest
    → replicate (run / c) p ++ replicate k p ≡ replicate count p
parts_of_run c k count run rest p is some most left =
    let sum : run / c + k ≡ count = grind (arith, is) in replicate-append-replicate (run / c) k p ∙ ap (λ m. replicate m p) sum

-- the byte of a run is taken
pub next_taken : (bytes : List ℕ) (taken count : ℕ) → taken < length bytes → count + 191 ≡ slice_index bytes taken
    → Consumes (Some (drop taken bytes)) (Some (drop (taken + 1) bytes)) (bytes_of (Run count))
next_taken bytes taken count inside is =
    let first : take 1 (drop taken bytes) ≡ bytes_of (Run count) =
    front 1 (drop taken bytes) (omega (arith, inside, length-drop taken bytes))
    ∙ ap (λ x. x ∷ []) (get_or-drop taken bytes 0 0 ∙ ap (λ i. get_or bytes i 0) (omega arith) ∙ sym is ∙ omega arith) in
    subst (Consumes (Some (drop taken bytes)) (Some (drop (taken + 1) bytes))) first (split_taken 1 (sym (drop-drop 1 taken bytes)))

-- A run fills the output, and goes on past its end.
pub piece_ends : {f c n : ℕ} {gone : Past} {start ahead rest : Option (List ℕ)} {table table' : List ℕ} {from : Reached} (k count : ℕ) (out out' : List ℕ) (now : Reached) (run : ℕ)
    → IsChannels c → from.at < length out → DecoderBetween f c gone n start ahead (filling table from out) → 0 < count → count ≤ 62
    → ((past : Past) → HoldsSeen table past → HoldsSeen table' (pixel_of_lanes from.last ∷ past))
    → Consumes ahead rest (bytes_of (Run count))
    → HasWritten f c out from.at out' (from.at + c * k) (replicate k (pixel_of_lanes from.last)) → now.at ≡ from.at + c * k → now.last ≡ from.last
    → (left : ℕ) → left ≡ c * k → left ≤ c * count → run ≡ c * count - left → LacksRun f c start rest table' now.last run (output f c (reverse gone) ++ take now.at out')
piece_ends {f} {c} {n} {gone} {start} {ahead} {rest} {table} {table'} {from} k count out out' now run is inside h some most put took filled end same left few fits over =
    let p = pixel_of_lanes from.last in
    let before = output f c (reverse gone) in
    let (all, after, e) = closes before out is h inside refl in
    let parts : copies c run from.last ++ (replicate k p ++ all) ≡ replicate count p ++ all =
    sym (append_assoc (copies c run from.last) (replicate k p) all) ∙ ap (λ z. z ++ all) (parts_of_run c k count run left p is few fits over) in (
      replicate k p ++ all,
      subst (λ l. DecoderAfter start rest table' l (copies c run l ++ (replicate k p ++ all))) (sym same)
          (subst (DecoderAfter start rest table' from.last) (sym parts) (then_run count some most after put took)),
      ap (λ i. before ++ take i out') end ∙ ap (λ z. before ++ z) filled.same ∙ sym (append_assoc before (take from.at out) (output f c (replicate k p)))
          ∙ ap (λ z. z ++ output f c (replicate k p)) e ∙ sym (output_copies f c k p all),
    )

-- a piece of what a reader showed was taken
pub piece_taken : {f c : ℕ} (ahead rest : Option (List ℕ)) {old : Filling} {table : List ℕ} (out : List ℕ) (now : Reached) (run : ℕ) (bytes : List ℕ) (size : ℕ)
    → TakesInPlace f c (Some bytes) (Some (drop size bytes)) old table out now run → Consumes ahead rest (take size bytes) → TakesInPlace f c ahead rest old table out now run
piece_taken ahead rest out now run bytes size fast took gone n start h =
    let before = chunk_bytes h.after.cs in
    let (all, after, e) = fast gone n (Some (before ++ bytes)) (taken_as h refl) in
    let taken = subst (Consumes start rest) (front_behind before _ bytes size after.taken) (Consumes-trans start ahead rest before (take size bytes) h.after.taken took) in
    (all, record { cs = after.cs; chunks = after.chunks; pixels = after.pixels; taken = taken; has_seen = after.has_seen }, e)
