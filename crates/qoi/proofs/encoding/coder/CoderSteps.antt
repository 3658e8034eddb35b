-- The coder's loop from one state to the next: over the repeats of a group, over a fresh pixel, and
-- over a piece that is sent.
use Rattle.std.proofs.Common.{◌≡◌, ◌≢◌, ◌⊎◌, inl, inr, ℕ, suc, Bool, true, not, ◌+◌, ◌*◌, ◌%◌, ◌<◌, List, [], ◌∷◌, ◌++◌, get_or, replicate, Option, None, Some, refl, sym, ap, ◌∙◌, subst, arith, append-nil, append_assoc}
use Rattle.std.specs.List.{AllByRecursion, slice_get}
use Rattle.std.proofs.lemmas.Grind.{flat_map-append}
use Rattle.qoi.specs.Qoi.{Chunk, Run, AreBytes, RgbaPixel, IsPixel, Past, previous, hash, IsChunk, bytes_of, chunk_bytes}
use Rattle.qoi.specs.Runs.{runs_by}
use Rattle.qoi.specs.Styles.{Style, Reference, Places, fresh_next, some_fresh, names, choice_in, styled}
use Rattle.qoi.specs.WrittenList.{chosen, list_after, written_list}
use Rattle.qoi.specs.inner.Coder.{single_chunk, last_chunk, Unsent, CoderAfter, CoderBetween, LastPixel}
use Rattle.qoi.proofs.format.ChunkSteps.{previous_repeats, all_back}
use Rattle.qoi.proofs.encoding.lists.ListAhead.{runs_full, none_ahead, repeat_ahead, repeats_ahead, chunk_ahead, fulls_ahead, runs_ahead}
use Rattle.qoi.proofs.encoding.styles.StyleLists.{chooses_in}
use Rattle.qoi.proofs.encoding.styles.StyledGroup.{WritesOne, styled_runs, styled_chunk}
use Rattle.qoi.proofs.encoding.lists.WrittenExists.{gives_pixel, no_run, is_pixel_start}

-- `AreBytes` by recursion
pub all_bytes : (bytes : List ℕ) → AreBytes bytes → AllByRecursion (λ b. b < 256) bytes
all_bytes [] h = tt
all_bytes (b ∷ bytes) h = (h 0, all_bytes bytes (λ i. tail_of i))
  where
    tail_of : (i : ℕ) → get_or bytes i 0 < 256
    tail_of i = h (suc i)

-- the first chunks' bytes are those written next
bytes_next : (unsent kept : List ℕ) (first left : List Chunk) → unsent ≡ kept ++ chunk_bytes (first ++ left)
    → unsent ≡ (kept ++ chunk_bytes first) ++ chunk_bytes left
bytes_next unsent kept first left e =
    e ∙ ap (λ x. kept ++ x) (flat_map-append bytes_of first left) ∙ sym (append_assoc kept (chunk_bytes first) (chunk_bytes left))

-- before a fresh pixel its chunk is next, which is no run
fresh_starts : (style : Style) (past : Past) (p : RgbaPixel) (rest : List RgbaPixel) → IsPixel (previous past) → IsPixel p → p ≢ previous past
    → fresh_next (list_after (chosen style) past 0 (p ∷ rest)) ≡ true
fresh_starts style past p rest before is differs =
    let choices = chooses_in style in
    ap fresh_next (chunk_ahead (chosen style) past p rest differs) ∙ ap not (no_run past p _ (choices.is past p (chosen style past p) (choices.some past p before is).1))

-- nothing is styled if there is nothing
styled_none : (style : Style) (past : Past) (before : Option Chunk) → styled style past before [] ≡ []
styled_none Reference past before = refl
styled_none style past before = refl

module _ {style : Style} {unsent : List ℕ} {past : Past} {before : Option Chunk} {kept : List ℕ} where
  -- the first pixel repeats, and joins those that came
  pub over_repeat : {n : ℕ} {p : RgbaPixel} {rest : List RgbaPixel} → Unsent style unsent past before n (p ∷ rest) kept → p ≡ previous past
      → Unsent style unsent past before (suc n) rest kept
  over_repeat {n} {p} {rest} b same = record {
    are = (let all : AllByRecursion IsPixel (p ∷ rest) = b.are in all.1);
    before_is = b.before_is;
    unsent_is = b.unsent_is ∙ ap (λ cs. kept ++ chunk_bytes (styled style past before cs)) (repeat_ahead (chosen style) past n p rest same);
  }

  -- so do several
  pub over_repeats : {n : ℕ} (k : ℕ) (rest : List RgbaPixel) → Unsent style unsent past before n (replicate k (previous past) ++ rest) kept
      → Unsent style unsent past before (n + k) rest kept
  over_repeats {n} k rest b = record {
    are = all_back IsPixel (replicate k (previous past)) rest b.are;
    before_is = b.before_is;
    unsent_is = b.unsent_is ∙ ap (λ cs. kept ++ chunk_bytes (styled style past before cs)) (repeats_ahead (chosen style) k past n rest);
  }

  -- full runs are written, and r repeats are left
  pub over_full_runs : (k r : ℕ) (rest : List RgbaPixel) → Unsent style unsent past before (62 * k + r) rest kept
      → Unsent style unsent (replicate (62 * k) (previous past) ++ past) (last_chunk before (runs_by (Run 1) (62 * k))) r rest
      (kept ++ chunk_bytes (replicate k (Run 62)))
  over_full_runs k r rest b =
      let group : Past = replicate (62 * k) (previous past) ++ past in
      let left = list_after (chosen style) group r rest in
      let none : 62 * k % 62 ≡ 0 = omega arith in
      record {
        are = b.are;
        before_is = subst IsPixel (sym (previous_repeats (62 * k) past)) b.before_is;
        unsent_is = bytes_next unsent kept (replicate k (Run 62)) (styled style group (last_chunk before (runs_by (Run 1) (62 * k))) left)
            (b.unsent_is
            ∙ ap (λ cs. kept ++ chunk_bytes (styled style past before cs)) (fulls_ahead (chosen style) k past r rest ∙ ap (λ cs. cs ++ left) (sym (runs_full k)))
            ∙ ap (λ cs. kept ++ chunk_bytes cs) (styled_runs style past before (62 * k) left (Run 1) (λ one. absurd (let no : 0 ≡ 1 = sym none ∙ one in cc))
            ∙ ap (λ cs. cs ++ styled style group (last_chunk before (runs_by (Run 1) (62 * k))) left) (runs_full k)));
      }

  -- The runs of a group are written, if no repeat follows or they are full. A single repeat that is
  -- left is written by the chunk `one`: at the end a run, and before a fresh pixel as the style has
  -- it.
  pub over_group : (n : ℕ) (rest : List RgbaPixel) (one : Chunk) → Unsent style unsent past before n rest kept
      → (slice_get rest 0 ≢ Some (previous past)) ⊎ (n % 62 ≡ 0)
      → (n % 62 ≡ 1 → ((rest ≡ []) × (one ≡ Run 1))
      ⊎ ((rest ≢ []) × (one ≡ single_chunk style (some_fresh past) (names before (hash (previous past))) (hash (previous past)) n)))
      → Unsent style unsent (replicate n (previous past) ++ past) (last_chunk before (runs_by (Run 1) n)) 0 rest (kept ++ chunk_bytes (runs_by one n))
  over_group n rest one b ends one_is = record {
    are = b.are;
    before_is = last_is;
    unsent_is = bytes_next unsent kept (runs_by one n) (styled style group (last_chunk before (runs_by (Run 1) n)) (left rest))
        (b.unsent_is ∙ ap (λ cs. kept ++ chunk_bytes (styled style past before cs)) (runs_ahead (chosen style) past n rest ends)
        ∙ ap (λ cs. kept ++ chunk_bytes cs) (styled_runs style past before n (left rest) one (λ e. by_rest rest b.are e (other e ends) (one_is e))));
  }
    where
      group : Past
      group = replicate n (previous past) ++ past

      left : List RgbaPixel → List Chunk
      left more = list_after (chosen style) group 0 more

      last_is : IsPixel (previous group)
      last_is = subst IsPixel (sym (previous_repeats n past)) b.before_is

      other : n % 62 ≡ 1 → (slice_get rest 0 ≢ Some (previous past)) ⊎ (n % 62 ≡ 0) → slice_get rest 0 ≢ Some (previous past)
      other e (inl differs) = differs
      other e (inr full) = absurd (let no : 1 ≡ 0 = sym e ∙ full in cc)

      by_rest : (more : List RgbaPixel) → AllByRecursion IsPixel more → n % 62 ≡ 1 → slice_get more 0 ≢ Some (previous past)
          → ((more ≡ []) × (one ≡ Run 1))
          ⊎ ((more ≢ []) × (one ≡ single_chunk style (some_fresh past) (names before (hash (previous past))) (hash (previous past)) n))
          → WritesOne style past before n (left more) one
      by_rest [] are e differs (inl is) = inl (none_ahead (chosen style) group, is.1)
      by_rest [] are e differs (inr is) = absurd (is.0 refl)
      by_rest (p ∷ more) are e differs (inl is) = absurd (let none : ◌≡◌ {A = List RgbaPixel} (p ∷ more) [] = is.0 in cc)
      by_rest (p ∷ more) are e differs (inr is) =
          inr (fresh_starts style group p more last_is are.0 (λ same. differs (ap Some (same ∙ previous_repeats n past))), is.1)

  -- The chunk of a fresh pixel is written.
  pub over_fresh : (p : RgbaPixel) (rest : List RgbaPixel) (c : Chunk) → Unsent style unsent past before 0 (p ∷ rest) kept → p ≢ previous past → IsChunk c
      → choice_in style past p c → Unsent style unsent (p ∷ past) (Some c) 0 rest (kept ++ bytes_of c)
  over_fresh p rest c b differs is choice =
      let choices = chooses_in style in
      let are : AllByRecursion IsPixel (p ∷ rest) = b.are in
      let left = list_after (chosen style) (p ∷ past) 0 rest in
      let some = choices.some past p b.before_is are.0 in
      let given = choices.is past p c choice in
      let same : chosen style past p ≡ c = choices.only past p (chosen style past p) c some.0 is some.1 choice in
      record {
        are = are.1;
        before_is = are.0;
        unsent_is = bytes_next unsent kept (c ∷ []) (styled style (p ∷ past) (Some c) left)
            (b.unsent_is ∙ ap (λ cs. kept ++ chunk_bytes (styled style past before cs)) (chunk_ahead (chosen style) past p rest differs ∙ ap (λ d. d ∷ left) same)
            ∙ ap (λ cs. kept ++ chunk_bytes cs) (styled_chunk style past before p c left (no_run past p c given) (gives_pixel past p c given)))
            ∙ ap (λ x. (kept ++ x) ++ chunk_bytes (styled style (p ∷ past) (Some c) left)) (append-nil (bytes_of c));
      }

  -- at the end nothing is left to write
  pub none_left : Unsent style unsent past before 0 [] kept → unsent ≡ kept
  none_left b = b.unsent_is ∙ ap (λ cs. kept ++ chunk_bytes (styled style past before cs)) (none_ahead (chosen style) past)
      ∙ ap (λ cs. kept ++ chunk_bytes cs) (styled_none style past before) ∙ append-nil kept

  -- once the first bytes that are kept are gone, the same holds of the others
  pub over_sent : {n : ℕ} {rest : List RgbaPixel} (gone left : List ℕ) → kept ≡ gone ++ left → Unsent style unsent past before n rest kept
      → (later : List ℕ) × (unsent ≡ gone ++ later) × Unsent style later past before n rest left
  over_sent {n} {rest} gone left split b =
      let bytes = chunk_bytes (styled style past before (list_after (chosen style) past n rest)) in (
        left ++ bytes,
        b.unsent_is ∙ ap (λ x. x ++ bytes) split ∙ append_assoc gone left bytes,
        record { are = b.are; before_is = b.before_is; unsent_is = refl },
      )

-- at the end the last run is left to write
pub last_run : {style : Style} {unsent : List ℕ} {past : Past} {before : Option Chunk} {kept : List ℕ} {n : ℕ} → Unsent style unsent past before n [] kept
    → unsent ≡ kept ++ chunk_bytes (runs_by (Run 1) n)
last_run {n = n} b = none_left (over_group n [] (Run 1) b (inl (λ e. cc)) (λ _. inl (refl, refl)))

-- before the first pixel, after bytes that stand in front of the chunks
pub coder_starts : (style : Style) (image : List RgbaPixel) (front : List ℕ) (table : List RgbaPixel) (last : LastPixel)
    → AllByRecursion IsPixel image → last.repeats ≡ 0 → CoderAfter style [] None table last
    → CoderBetween style (front ++ chunk_bytes (written_list style image)) image table last front
coder_starts style image front table last are none state = record {
  past = [];
  before = None;
  to_write = rw none (record { are = are; before_is = is_pixel_start; unsent_is = refl });
  state = state;
}

-- what is known of the chunk before matters in style Places alone
single_same : (style : Style) (begun placed named : Bool) (place n : ℕ) → (style ≡ Places → placed ≡ named)
    → single_chunk style begun placed place n ≡ single_chunk style begun named place n
single_same Places begun placed named place n is = ap (λ b. single_chunk Places begun b place n) (is refl)
single_same style begun placed named place n is = refl

module _ {style : Style} {unsent : List ℕ} {pixels : List RgbaPixel} {table : List RgbaPixel} {last : LastPixel} {bytes : List ℕ}
    (b : CoderBetween style unsent pixels table last bytes) where
  -- the pixel before is the last
  last_before : previous b.past ≡ last.px
  last_before = sym b.state.last_is

  -- the repeats at the front join those that came
  joined : (n : ℕ) (rest : List RgbaPixel) → pixels ≡ replicate n last.px ++ rest → Unsent style unsent b.past b.before (last.repeats + n) rest bytes
  joined n rest split = over_repeats n rest (subst (λ x. Unsent style unsent b.past b.before last.repeats x bytes)
      (split ∙ ap (λ p. replicate n p ++ rest) b.state.last_is) b.to_write)

  -- The repeats at the front are carried.
  pub repeats_joined : (n : ℕ) (rest : List RgbaPixel) {next : LastPixel} → pixels ≡ replicate n last.px ++ rest → next.px ≡ last.px
      → next.begun ≡ last.begun → next.named ≡ last.named → next.repeats ≡ last.repeats + n → CoderBetween style unsent rest table next bytes
  repeats_joined n rest {next} split px begun placed repeats = record {
    past = b.past;
    before = b.before;
    to_write = rw repeats (joined n rest split);
    state = record {
      table_is = b.state.table_is;
      last_is = px ∙ b.state.last_is;
      begun_is = begun ∙ b.state.begun_is;
      named_is = λ is. placed ∙ b.state.named_is is;
    };
  }

  -- The runs of a group are written.
  pub group_written : (n : ℕ) (rest : List RgbaPixel) (one : Chunk) {next_table : List RgbaPixel} {next : LastPixel} {next_bytes : List ℕ}
      → pixels ≡ replicate n last.px ++ rest
      → (slice_get rest 0 ≢ Some last.px) ⊎ ((last.repeats + n) % 62 ≡ 0)
      → ((last.repeats + n) % 62 ≡ 1 → ((rest ≡ []) × (one ≡ Run 1)) ⊎ ((rest ≢ []) × (one ≡ single_chunk style last.begun last.named (hash last.px) (last.repeats + n))))
      → next_bytes ≡ bytes ++ chunk_bytes (runs_by one (last.repeats + n)) → next.repeats ≡ 0
      → ((past : Past) (before : Option Chunk) → CoderAfter style past before table last
      → CoderAfter style (replicate (last.repeats + n) (previous past) ++ past) (last_chunk before (runs_by (Run 1) (last.repeats + n))) next_table next)
      → CoderBetween style unsent rest next_table next next_bytes
  group_written n rest one {next_table} {next} {next_bytes} split ends one_is written none state =
      let q = previous b.past in
      let count = last.repeats + n in
      let named = names b.before (hash q) in
      let stops : (slice_get rest 0 ≢ Some q) ⊎ (count % 62 ≡ 0) = elim ends [
        | inl other ↦ inl (λ e. other (e ∙ ap Some last_before))
        | inr full ↦ inr full
      ] in
      let single_is : single_chunk style last.begun last.named (hash last.px) count ≡ single_chunk style (some_fresh b.past) named (hash q) count =
      single_same style last.begun last.named named (hash last.px) count b.state.named_is
      ∙ (λ i. single_chunk style (b.state.begun_is i) named (hash (b.state.last_is i)) count) in
      let over = over_group count rest one (joined n rest split) stops (λ e. elim (one_is e) [
        | inl end ↦ inl end
        | inr some ↦ inr (some.0, some.1 ∙ single_is)
      ]) in
      record {
        past = replicate count q ++ b.past;
        before = last_chunk b.before (runs_by (Run 1) count);
        to_write = rw (none, written) over;
        state = state b.past b.before b.state;
      }

  -- Its full runs are written, and other repeats are left.
  pub fulls_written : (n k : ℕ) (rest : List RgbaPixel) {next_table : List RgbaPixel} {next : LastPixel} {next_bytes : List ℕ}
      → pixels ≡ replicate n last.px ++ rest → last.repeats + n ≡ 62 * k + next.repeats
      → next_bytes ≡ bytes ++ chunk_bytes (replicate k (Run 62))
      → ((past : Past) (before : Option Chunk) → CoderAfter style past before table last
      → CoderAfter style (replicate (62 * k) (previous past) ++ past) (last_chunk before (runs_by (Run 1) (62 * k))) next_table next)
      → CoderBetween style unsent rest next_table next next_bytes
  fulls_written n k rest {next_table} {next} {next_bytes} split sum written state = record {
    past = replicate (62 * k) (previous b.past) ++ b.past;
    before = last_chunk b.before (runs_by (Run 1) (62 * k));
    to_write = rw written (over_full_runs k next.repeats rest (rw sum at (joined n rest split)));
    state = state b.past b.before b.state;
  }

-- The chunk of a fresh pixel is written.
pub fresh_written : {style : Style} {unsent : List ℕ} {p : RgbaPixel} {rest : List RgbaPixel} {table : List RgbaPixel} {last : LastPixel} {bytes : List ℕ}
    (b : CoderBetween style unsent (p ∷ rest) table last bytes) (c : Chunk) {next_table : List RgbaPixel} {next : LastPixel} {next_bytes : List ℕ}
    → p ≢ last.px → last.repeats ≡ 0 → IsChunk c → choice_in style b.past p c → next_bytes ≡ bytes ++ bytes_of c
    → next.repeats ≡ 0 → CoderAfter style (p ∷ b.past) (Some c) next_table next → CoderBetween style unsent rest next_table next next_bytes
fresh_written {style} {unsent} {p} {rest} {bytes = bytes} b c differs none is choice written left state = record {
  past = p ∷ b.past;
  before = Some c;
  to_write = rw (left, written) (over_fresh p rest c (rw none at b.to_write) (λ e. differs (e ∙ sym b.state.last_is)) is choice);
  state = state;
}
