-- A block of pixels is written, lane by lane.
use Rattle.std.proofs.Common.{◌≡◌, ◌≢◌, ◌⊎◌, inl, inr, ℕ, zero, suc, ◌+◌, ◌<◌, Bool, true, false, ◌==◌, List, [], ◌∷◌, ◌++◌, length, replicate, Option, Some, refl, sym, ap, ◌∙◌, arith, subst, append_assoc, append-nil, if◌then◌else◌}
use Rattle.std.specs.List.{AllByRecursion, slice_get}
use Rattle.std.proofs.lemmas.Bool.{true≢false, true_from_ne_false, eq-eqb}
use Rattle.std.proofs.lemmas.Option.{same_Some}
use Rattle.std.specs.List.{list_any}
use Rattle.qoi.specs.Qoi.{Chunk, Place, Run, RgbaPixel, IsPixel, Past, previous, pixel_eq, blank, seen, hash, IsChunk, bytes_of, chunk_bytes}
use Rattle.qoi.specs.Runs.{runs_by}
use Rattle.qoi.specs.Written.{fresh, IsFirst}
use Rattle.qoi.specs.Styles.{Style, Reference, Places, Tight, some_fresh, names, choice_in}
use Rattle.qoi.specs.inner.Coder.{put_in, single_chunk, last_chunk, Unsent}
use Rattle.qoi.proofs.format.SamePixels.{pixel_eq-true, pixel_eq-from, pixel_eq-ne, hash_below, cases_pixel}
use Rattle.qoi.proofs.format.SeenTable.{seen_copies, put_again}
use Rattle.qoi.proofs.encoding.lists.NotedPixels.{fresh_repeat, fresh_more, seen_same}
use Rattle.qoi.proofs.encoding.lists.GroupRuns.{not_one}
use Rattle.qoi.proofs.encoding.lists.RunBytes.{few_by}
use Rattle.qoi.proofs.encoding.coder.CoderSteps.{over_repeat, over_group, over_fresh}
use Rattle.qoi.proofs.encoding.coder.CoderTable.{fresh_held_in, fresh_repeats, place_chosen, spelled_out}
use Rattle.qoi.proofs.encoding.lists.WrittenExists.{spells_no_place}
use Rattle.qoi.specs.inner.block.Lanes.{lane_bytes, State, lane_of, group_bytes, next_by, step_by, block_bytes, NoAbsentBlank, goes_on, lanes_of}
use Rattle.qoi.proofs.encoding.blocks.LaneBytes.{carry_few}
use Rattle.qoi.proofs.encoding.coder.Spelled.{first_after}
use Rattle.qoi.proofs.encoding.blocks.LastCount.{next_state, end_state}
use Rattle.qoi.proofs.encoding.styles.PlacedLists.{seen_last}
use Rattle.qoi.specs.WrittenList.{first_chunk}
use Rattle.qoi.proofs.encoding.styles.StyledGroup.{runs_name_none}

-- repeats are carried only if the next pixel is one
abbrev pub CarryGoesOn : State → List RgbaPixel → Type 0
CarryGoesOn s [] = Unit {0}
CarryGoesOn s (p ∷ ps) = 0 < s.carry → p ≡ s.last

-- the state once the carried repeats are written, before a fresh pixel
abbrev pub flushed_state : State → State
flushed_state s = record { held = s.held; last = s.last; carry = 0; named = false }

-- Written up to `carry` repeats of the last pixel, which have come. `begun` says whether a fresh
-- pixel came; if not, the next one is fresh, and no repeats are carried.
pub record Carrying (begun : Bool) (style : Style) (unsent : List ℕ) (s : State) (rest : List RgbaPixel) (kept : List ℕ) : Type 0 where
  pub past : Past
  pub before : Option Chunk
  pub to_write : Unsent style unsent past before s.carry rest kept
  pub last_is : previous past ≡ s.last
  pub begun_is : some_fresh past ≡ begun
  pub opens : begun ≡ false → (s.carry ≡ 0) × (slice_get rest 0 ≢ Some s.last)
  pub held_is : (i : ℕ) → seen s.held i ≡ seen (put_in style past) i
  pub named_is : s.named ≡ names before (hash s.last)

-- A group of fewer than 62 repeats is written, before a fresh pixel.
group_next : {style : Style} {unsent : List ℕ} {past : Past} {before : Option Chunk} {kept : List ℕ} (k : ℕ) (p : RgbaPixel) (more : List RgbaPixel)
    (placed : Bool) (q : RgbaPixel) → Unsent style unsent past before (suc k) (p ∷ more) kept → p ≢ previous past → k < 61 → some_fresh past ≡ true
    → previous past ≡ q → placed ≡ names before (hash q)
    → Unsent style unsent (replicate (suc k) (previous past) ++ past) (last_chunk before (runs_by (Run 1) (suc k))) 0 (p ∷ more)
    (kept ++ group_bytes style placed q (suc k))
group_next {style} {unsent} {past} {before} {kept} k p more placed q b differs few begun last_is named_is =
    subst (λ z. Unsent style unsent (replicate (suc k) (previous past) ++ past) (last_chunk before (runs_by (Run 1) (suc k))) 0 (p ∷ more) (kept ++ z))
    (bytes_are k few)
    (over_group (suc k) (p ∷ more) (one (suc k)) b (inl (λ e. differs (same_Some _ _ e))) (λ _. inr (λ none. cc none, refl)))
  where
    one : ℕ → Chunk
    one n = single_chunk style (some_fresh past) (names before (hash (previous past))) (hash (previous past)) n

    placed_of : names before (hash (previous past)) ≡ placed
    placed_of = ap (λ z. names before (hash z)) last_is ∙ sym named_is

    bytes_are : (k : ℕ) → k < 61 → chunk_bytes (runs_by (one (suc k)) (suc k)) ≡ group_bytes style placed q (suc k)
    bytes_are zero l =
        ap chunk_bytes (few_by (one 1) 1 (omega arith)) ∙ append-nil (bytes_of (one 1))
        ∙ (λ i. bytes_of (single_chunk style (begun i) (placed_of i) (hash (last_is i)) 1))
    bytes_are (suc k) l =
        ap chunk_bytes (few_by (one (suc (suc k))) (suc (suc k)) (omega arith)) ∙ append-nil (bytes_of (Run (suc (suc k))))
        ∙ sym (ap (λ b. bytes_of (if b then single_chunk style true placed (hash q) 1 else Run (suc (suc k)))) (not_one k))

-- once a fresh pixel came, the last of them is the last pixel
fresh_first : (past : Past) → some_fresh past ≡ true → seen (fresh past) (hash (previous past)) ≡ previous past
fresh_first [] b = absurd (true≢false (sym b))
fresh_first (p ∷ past) b = go (fresh_first past) (cases_pixel p (previous past))
  where
    go : (some_fresh past ≡ true → seen (fresh past) (hash (previous past)) ≡ previous past) → (p ≡ previous past) ⊎ (p ≢ previous past)
        → seen (fresh (p ∷ past)) (hash p) ≡ p
    go before (inl e) =
        let f = fresh_repeat past p e in
        ap (λ x. seen x (hash p)) f ∙ ap (λ q. seen (fresh past) (hash q)) e ∙ before (sym (ap (list_any (λ p. true)) f) ∙ b) ∙ sym e
    go before (inr n) = ap (λ x. seen x (hash p)) (fresh_more past p n) ∙ seen_same (fresh past) p (hash p) refl

-- so in each style the last pixel stands at its position
stands_there : (style : Style) (past : Past) → some_fresh past ≡ true → seen (put_in style past) (hash (previous past)) ≡ previous past
stands_there Tight past b = seen_last past b
stands_there style past b = fresh_first past b

-- repeats leave it so that a fresh pixel came
pub still_begun : (n : ℕ) (past : Past) → some_fresh past ≡ true → some_fresh (replicate n (previous past) ++ past) ≡ true
still_begun n past b = ap (list_any (λ p. true)) (fresh_repeats n past) ∙ b

-- repeats change nothing that is seen
pub repeats_held : (style : Style) (n : ℕ) (past : Past) → some_fresh past ≡ true → (i : ℕ)
    → seen (put_in style (replicate n (previous past) ++ past)) i ≡ seen (put_in style past) i
repeats_held Tight zero past b i = refl
repeats_held Tight (suc n) past b i = seen_copies (suc n) (previous past) past i (omega arith) ∙ put_again (previous past) past (seen_last past b) i
repeats_held style n past b i = ap (λ x. seen x i) (fresh_repeats n past)

-- after a fresh pixel one came
fresh_begun : (past : Past) (p : RgbaPixel) → p ≢ previous past → some_fresh (p ∷ past) ≡ true
fresh_begun past p n = ap (list_any (λ p. true)) (fresh_more past p n)

-- a pixel put into tables that hold the same
put_same : (p : RgbaPixel) (xs ys : Past) → ((i : ℕ) → seen xs i ≡ seen ys i) → (i : ℕ) → seen (p ∷ xs) i ≡ seen (p ∷ ys) i
put_same p xs ys same i = ap (λ z. if hash p == i then p else z) (same i)

-- how a fresh pixel that isn't at its position is given, if it isn't transparent black in style
-- Tight
chosen : (style : Style) (past : Past) (p : RgbaPixel) (c : Chunk) → IsFirst past p c → seen (put_in style past) (hash p) ≢ p → (style ≡ Tight → p ≢ blank)
    → choice_in style past p c
chosen Reference past p c first differs none = spelled_out Reference past p c (inl refl) first differs
chosen Places past p c first differs none = spelled_out Places past p c (inr refl) first differs
chosen Tight past p c first differs none = record {
  place = λ e. absurd (differs e);
  unseen = λ _ e. absurd (none refl e);
  spelled = λ _ _. first;
}

module _ {begun : Bool} {style : Style} {unsent : List ℕ} (s : State) (p : RgbaPixel) (tail : List RgbaPixel) {kept : List ℕ} where
  -- if the next pixel repeats, a fresh one came
  begun_at : (c : Carrying begun style unsent s (p ∷ tail) kept) → p ≡ s.last → some_fresh c.past ≡ true
  begun_at c e = c.begun_is ∙ true_from_ne_false begun (λ no. (c.opens no).1 (ap Some e))

  -- if repeats are carried, one came
  begun_carried : (c : Carrying begun style unsent s (p ∷ tail) kept) (k : ℕ) → s.carry ≡ suc k → some_fresh c.past ≡ true
  begun_carried c k some = c.begun_is ∙ true_from_ne_false begun (λ no. absurd (omega (arith, (c.opens no).0, some)))

  -- and the last pixel stands at its position
  put_there : (c : Carrying begun style unsent s (p ∷ tail) kept) → some_fresh c.past ≡ true → previous c.past ≡ p → seen s.held (hash p) ≡ p
  put_there c has is = subst (λ q. seen s.held (hash q) ≡ q) is (c.held_is _ ∙ stands_there style c.past has)

  -- a repeat that another one follows, or nothing, is carried
  repeat_on : Carrying begun style unsent s (p ∷ tail) kept → p ≡ s.last → Carrying true style unsent (next_by true true s p) tail (kept ++ [])
  repeat_on c e =
      let has = begun_at c e in
      record {
        past = c.past;
        before = c.before;
        to_write = subst (Unsent style unsent c.past c.before (suc s.carry) tail) (sym (append-nil kept)) (over_repeat c.to_write (e ∙ sym c.last_is));
        last_is = c.last_is ∙ sym e;
        begun_is = begun_at c e;
        opens = λ no. absurd (true≢false no);
        held_is = λ i. put_again p s.held (put_there c has (c.last_is ∙ sym e)) i ∙ c.held_is i;
        named_is = c.named_is ∙ ap (λ q. names c.before (hash q)) (sym e);
      }

  -- a fresh pixel is written
  fresh_one : Carrying begun style unsent s (p ∷ tail) kept → p ≢ s.last → s.carry ≡ 0 → (style ≡ Tight → seen s.held (hash p) ≢ p → p ≢ blank) → (more : Bool)
      → Carrying true style unsent (next_by false more s p) tail (kept ++ lane_bytes (lane_of s.held s.last p))
  fresh_one c n zero_carry none more = by_place (cases_pixel (seen s.held (hash p)) p)
    where
      start : Unsent style unsent c.past c.before 0 (p ∷ tail) kept
      start = subst (λ k. Unsent style unsent c.past c.before k (p ∷ tail) kept) zero_carry c.to_write

      differs : p ≢ previous c.past
      differs e = n (e ∙ c.last_is)

      after : (d : Chunk) → IsChunk d → choice_in style c.past p d → lane_bytes (lane_of s.held s.last p) ≡ bytes_of d
          → pixel_eq (seen s.held (hash p)) p ≡ names (Some d) (hash p)
          → Carrying true style unsent (next_by false more s p) tail (kept ++ lane_bytes (lane_of s.held s.last p))
      after d is choice bytes named = record {
        past = p ∷ c.past;
        before = Some d;
        to_write = rw bytes (over_fresh p tail d start differs is choice);
        last_is = refl;
        begun_is = fresh_begun c.past p differs;
        opens = λ no. absurd (true≢false no);
        held_is = λ i. put_same p s.held (put_in style c.past) c.held_is i ∙ ap (λ x. seen x i) (sym (fresh_held_in style c.past p differs));
        named_is = named;
      }

      by_place : (seen s.held (hash p) ≡ p) ⊎ (seen s.held (hash p) ≢ p) → Carrying true style unsent (next_by false more s p) tail (kept ++ lane_bytes (lane_of s.held s.last p))
      by_place (inl there) =
          let t = pixel_eq-from _ p there in
          after (Place (hash p)) (hash_below p) (place_chosen style c.past p (sym (c.held_is (hash p)) ∙ there)) (rw t refl) (t ∙ sym (eq-eqb (hash p) (hash p) refl))
      by_place (inr away) =
          let f = pixel_eq-ne _ p away in
          let are : AllByRecursion IsPixel (p ∷ tail) = start.are in
          let d = first_chunk s.last p in
          let is = first_after s.last p (subst IsPixel c.last_is start.before_is) are.0 in
          let first = is.1 c.past c.last_is in
          after d is.0 (chosen style c.past p d first (λ e. away (c.held_is (hash p) ∙ e)) (λ t. none t away)) (rw f refl) (f ∙ sym (spells_no_place d (hash p) first.spells))

  -- a repeat before a fresh pixel: the group is written
  repeat_end : Carrying begun style unsent s (p ∷ tail) kept → p ≡ s.last → (q : RgbaPixel) (more : List RgbaPixel) → tail ≡ q ∷ more → q ≢ p → s.carry < 61
      → Carrying true style unsent (next_by true false s p) tail (kept ++ group_bytes style s.named p (suc s.carry))
  repeat_end c e q more next differs few =
      let has = begun_at c e in
      let p_is : previous c.past ≡ p = c.last_is ∙ sym e in
      let joined = subst (λ z. Unsent style unsent c.past c.before (suc s.carry) z kept) next (over_repeat c.to_write (sym p_is)) in
      record {
        past = replicate (suc s.carry) (previous c.past) ++ c.past;
        before = last_chunk c.before (runs_by (Run 1) (suc s.carry));
        to_write = rw next (group_next s.carry q more s.named p joined (λ same. differs (same ∙ p_is)) few has p_is
            (c.named_is ∙ ap (λ z. names c.before (hash z)) (sym e)));
        last_is = p_is;
        begun_is = still_begun (suc s.carry) c.past has;
        opens = λ no. absurd (true≢false no);
        held_is = λ i. put_again p s.held (put_there c has p_is) i ∙ c.held_is i ∙ sym (repeats_held style (suc s.carry) c.past has i);
        named_is = sym (runs_name_none (suc s.carry) c.before (hash p) (omega arith));
      }

  -- the carried repeats before a fresh pixel are written
  pub flushed : (k : ℕ) → Carrying begun style unsent s (p ∷ tail) kept → p ≢ s.last → s.carry ≡ suc k → k < 61
      → Carrying true style unsent (flushed_state s) (p ∷ tail) (kept ++ group_bytes style s.named s.last (suc k))
  flushed k c differs some few =
      let has = begun_carried c k some in
      let start = subst (λ n. Unsent style unsent c.past c.before n (p ∷ tail) kept) some c.to_write in
      record {
        past = replicate (suc k) (previous c.past) ++ c.past;
        before = last_chunk c.before (runs_by (Run 1) (suc k));
        to_write = group_next k p tail s.named s.last start (λ same. differs (same ∙ c.last_is)) few has c.last_is c.named_is;
        last_is = c.last_is;
        begun_is = still_begun (suc k) c.past has;
        opens = λ no. absurd (true≢false no);
        held_is = λ i. c.held_is i ∙ sym (repeats_held style (suc k) c.past has i);
        named_is = sym (runs_name_none (suc k) c.before (hash s.last) (omega arith));
      }

-- after a lane repeats are carried only if the next pixel is one
carry_on : (s : State) (p : RgbaPixel) (ps : List RgbaPixel) → CarryGoesOn (next_state s p ps) ps
carry_on s p [] = tt
carry_on s p (q ∷ qs) = go (pixel_eq p s.last) (pixel_eq q p) refl
  where
    go : (b m : Bool) → pixel_eq q p ≡ m → 0 < (next_by b m s p).carry → q ≡ p
    go true true e some = pixel_eq-true q p e
    go true false e some = absurd (omega arith)
    go false m e some = absurd (omega arith)

-- what is not above 0 is 0
none_at : (n : ℕ) → (0 < n → ⊥) → n ≡ 0
none_at zero never = refl
none_at (suc n) never = absurd (never (omega arith))

module _ (style : Style) (unsent : List ℕ) (s : State) (p : RgbaPixel) (kept : List ℕ) (few : s.carry < 61) where
  -- after a lane: from whether it repeats, and whether the next one does
  abbrev After : Bool → Bool → List RgbaPixel → Type 0
  After b m tail = Carrying true style unsent (next_by b m s p) tail (kept ++ step_by b m style s p)

  -- over a repeat
  over_same : {begun : Bool} (ps rest : List RgbaPixel) → Carrying begun style unsent s (p ∷ (ps ++ rest)) kept → p ≡ s.last → After true (goes_on (lanes_of (p ∷ s.held) p ps)) (ps ++ rest)
  over_same [] rest c e = repeat_on s p rest c e
  over_same (q ∷ qs) rest c e = go (cases_pixel q p)
    where
      go : (q ≡ p) ⊎ (q ≢ p) → After true (pixel_eq q p) (q ∷ (qs ++ rest))
      go (inl same) = rw (pixel_eq-from q p same) (repeat_on s p (q ∷ (qs ++ rest)) c e)
      go (inr other) = rw (pixel_eq-ne q p other) (repeat_end s p (q ∷ (qs ++ rest)) c e q (qs ++ rest) refl other few)

  -- over a lane's pixel
  over_lane : {begun : Bool} (ps rest : List RgbaPixel) → Carrying begun style unsent s (p ∷ (ps ++ rest)) kept → (0 < s.carry → p ≡ s.last)
      → (style ≡ Tight → p ≢ s.last → seen s.held (hash p) ≢ p → p ≢ blank) → After (pixel_eq p s.last) (goes_on (lanes_of (p ∷ s.held) p ps)) (ps ++ rest)
  over_lane ps rest c on none = go (cases_pixel p s.last)
    where
      go : (p ≡ s.last) ⊎ (p ≢ s.last) → After (pixel_eq p s.last) (goes_on (lanes_of (p ∷ s.held) p ps)) (ps ++ rest)
      go (inl e) = rw (pixel_eq-from p s.last e) (over_same ps rest c e)
      go (inr n) = rw (pixel_eq-ne p s.last n)
          (fresh_one s p (ps ++ rest) c n (none_at s.carry (λ some. n (on some))) (λ t away. none t n away) (goes_on (lanes_of (p ∷ s.held) p ps)))

-- A block's pixels are written, but for the repeats at their end.
pub block_written : {begun : Bool} {style : Style} {unsent : List ℕ} (s : State) (ps rest : List RgbaPixel) {kept : List ℕ} → 0 < length ps
    → Carrying begun style unsent s (ps ++ rest) kept → CarryGoesOn s ps → s.carry + length ps < 62 → (style ≡ Tight → NoAbsentBlank s.held s.last ps)
    → Carrying true style unsent (end_state s ps) rest (kept ++ block_bytes style s ps)
block_written s [] rest some c on few none = absurd (omega arith)
block_written {style = style} {unsent} s (p ∷ []) rest {kept} some c on few none =
    subst (λ b. Carrying true style unsent (next_state s p []) rest (kept ++ b)) (sym (append-nil (step_by (pixel_eq p s.last) true style s p)))
    (over_lane style unsent s p kept (omega arith) [] rest c on (λ t. (none t).0))
block_written {begun} {style} {unsent} s (p ∷ q ∷ ps) rest {kept} some c on few none =
    let m = pixel_eq q p in
    let next = next_state s p (q ∷ ps) in
    let one = over_lane style unsent s p kept (omega arith) (q ∷ ps) rest c on (λ t. (none t).0) in
    subst (Carrying true style unsent (end_state next (q ∷ ps)) rest) (append_assoc kept (step_by (pixel_eq p s.last) m style s p) (block_bytes style next (q ∷ ps)))
    (block_written {begun = true} next (q ∷ ps) rest (omega arith) one (carry_on s p (q ∷ ps)) (omega (arith, carry_few (pixel_eq p s.last) m s p)) (λ t. (none t).1))
