-- From one block of sixteen pixels to the next.
use Rattle.std.proofs.Common.{◌≡◌, ◌⊎◌, inl, inr, ◌%◌, ◌≢◌, nat_lt, ℕ, zero, suc, ◌+◌, ◌-◌, ◌<◌, ◌≤◌, Bool, true, false, List, [], ◌∷◌, ◌++◌, length, map, get_or, take, slice_index, Some, refl, sym, ap, ◌∙◌, arith, subst, reverse, append_assoc}
use mir.Val.{bool_byte}
use Rattle.std.proofs.lemmas.Bool.{true≢false, cases_eq, le-ltb, lt-ltb}
use Rattle.std.proofs.lemmas.List.{length-map}
use Rattle.std.specs.List.{slice_get}
use Rattle.qoi.specs.declared.encode.block.planes.Planes.{Planes}
use Rattle.qoi.specs.declared.encode.block.spelling.Spelled.{Spelled}
use Rattle.qoi.specs.Qoi.{RgbaPixel, pixel_eq, seen, hash}
use Rattle.qoi.specs.Styles.{Style, Places, Tight, names}
use Rattle.qoi.specs.inner.block.Lanes.{fresh_marks, mask, State, lanes_of, is_rep, group_bytes, block_bytes, NoAbsentBlank, next_by, goes_on}
use Rattle.qoi.specs.inner.BlockLoop.{InBlocks, Carry}
use Rattle.qoi.specs.inner.block.Vectors.{counts, HasSpelled}
use Rattle.qoi.specs.inner.Coder.{Unsent}
use Rattle.qoi.specs.inner.Table.{Holds}
use Rattle.qoi.specs.inner.block.Planes.{AreSixteen, ArePlanes, last_pixel}
use Rattle.qoi.specs.inner.block.Positions.{stand_tests}
use Rattle.std.proofs.lemmas.Grind.{reverse_onto}
use Rattle.qoi.proofs.format.SamePixels.{same_pixel, pixel_eq-true, pixel_eq-from}
use Rattle.qoi.proofs.encoding.blocks.LaneBytes.{carry_few}
use Rattle.qoi.proofs.encoding.blocks.BlockWritten.{Carrying, flushed, block_written, CarryGoesOn, flushed_state}
use Rattle.qoi.proofs.encoding.blocks.LastCount.{last_count, next_state, end_state}
use Rattle.qoi.proofs.encoding.blocks.SpelledBlock.{lanes_long}
use Rattle.qoi.proofs.encoding.blocks.StyledBytes.{firsts_anew}
use Rattle.qoi.proofs.encoding.coder.CoderLink.{goes_on as carries_on}
use Rattle.qoi.proofs.encoding.coder.MarkedPixels.{none_first}

-- the pixels that were put, after all of these
pub end_held : (s : State) (ps : List RgbaPixel) → (end_state s ps).held ≡ reverse ps ++ s.held
end_held s [] = refl
end_held s (p ∷ ps) = end_held (next_state s p ps) ps ∙ sym (ap (λ z. z ++ s.held) (reverse_onto ps p []) ∙ append_assoc (reverse ps) (p ∷ []) s.held)

-- the last pixel is the last of them
pub end_last : (s : State) (ps : List RgbaPixel) (x : Planes) → AreSixteen ps → ArePlanes ps x → (end_state s ps).last ≡ last_pixel x
end_last s (p0 ∷ p1 ∷ p2 ∷ p3 ∷ p4 ∷ p5 ∷ p6 ∷ p7 ∷ p8 ∷ p9 ∷ p10 ∷ p11 ∷ p12 ∷ p13 ∷ p14 ∷ p15 ∷ []) x sixteen are =
    same_pixel p15 (last_pixel x) (sym (ap (λ z. slice_index z 15) are.r_is)) (sym (ap (λ z. slice_index z 15) are.g_is))
    (sym (ap (λ z. slice_index z 15) are.b_is)) (sym (ap (λ z. slice_index z 15) are.a_is))
end_last s ps x sixteen are = absurd (let l = sixteen.long in omega arith)

-- before a fresh lane what was counted doesn't matter
counts_anew : (c : ℕ) (r : Bool) (rs : List Bool) → r ≡ false → counts c (r ∷ rs) ≡ counts 0 (r ∷ rs)
counts_anew c true rs e = absurd (true≢false e)
counts_anew c false rs e = refl

-- a block is spelled out the same once the repeats before it are written
spelled_anew : (style : Style) (s : State) (p : RgbaPixel) (ps : List RgbaPixel) (x : Spelled) → pixel_eq p s.last ≡ false → HasSpelled style s (p ∷ ps) x
    → HasSpelled style (flushed_state s) (p ∷ ps) x
spelled_anew style s p ps x e h = record {
  rep_is = h.rep_is;
  first_is = h.first_is ∙ firsts_anew style s.named false s.carry (lanes_of s.held s.last (p ∷ ps)) e;
  second_is = h.second_is;
  size_is = h.size_is;
  count_is = h.count_is ∙ counts_anew s.carry (pixel_eq p s.last) (map is_rep (lanes_of (p ∷ s.held) p ps)) e;
  rgba_is = h.rgba_is;
}

-- The repeats before the block are written, if a fresh pixel follows them: the state from which its
-- chunks are written, with the same pixels put and the same last pixel. The pixels that still come
-- begin as the block does.
pub record Ready (style : Style) (unsent : List ℕ) (s : State) (ps pixels : List RgbaPixel) (x : Spelled) (kept : List ℕ) : Type 0 where
  pub begun : Bool
  pub state : State
  pub carrying : Carrying begun style unsent state pixels kept
  pub goes_on_is : CarryGoesOn state ps
  pub few : state.carry ≤ 45
  pub spelled : HasSpelled style state ps x
  pub held_is : state.held ≡ s.held
  pub last_is : state.last ≡ s.last

-- only in style Places it matters what the chunk before a group names
same_group : (style : Style) (a b : Bool) (q : RgbaPixel) (n : ℕ) → (style ≡ Places → a ≡ b) → group_bytes style a q n ≡ group_bytes style b q n
same_group Places a b q n e = ap (λ z. group_bytes Places z q n) (e refl)
same_group style a b q n e = refl

-- From the state before the block: the byte of its repeats is stored at `at`, and counts if it ends at
-- `end`.
pub ready : {begun : Bool} (style : Style) (unsent : List ℕ) (s : State) (ps rest : List RgbaPixel) (x : Spelled) (placed : Bool) (at end : ℕ) (kept next : List ℕ)
    → s.carry < 62 → (slice_get (ps ++ rest) 0 ≡ Some s.last → s.carry ≤ 45) → Carrying begun style unsent s (ps ++ rest) kept → HasSpelled style s ps x → AreSixteen ps
    → (style ≡ Places → s.named ≡ placed) → take at next ≡ kept → (0 < s.carry → take (at + 1) next ≡ kept ++ group_bytes style placed s.last s.carry)
    → end ≡ at + bool_byte (nat_lt (slice_index x.rep 0) s.carry) → Ready style unsent s ps (ps ++ rest) x (take end next)
ready style unsent s [] rest x placed at end kept next small few c h sixteen named_is front run end_is = absurd (let l = sixteen.long in omega arith)
ready {begun} style unsent s (p ∷ ps) rest x placed at end kept next small few c h sixteen named_is front run end_is = go (pixel_eq p s.last) refl
  where
    ends : (b t : Bool) (k : ℕ) → pixel_eq p s.last ≡ b → s.carry ≡ k → nat_lt (mask b) k ≡ t → end ≡ at + bool_byte t
    ends b t k e count test =
        end_is ∙ (λ i. at + bool_byte (nat_lt ((ap (λ z. slice_index z 0) h.rep_is ∙ ap mask e) i) (count i))) ∙ ap (λ t. at + bool_byte t) test

    stays : end ≡ at + 0 → CarryGoesOn s (p ∷ ps) → s.carry ≤ 45 → Ready style unsent s (p ∷ ps) (p ∷ (ps ++ rest)) x (take end next)
    stays is on fits = record {
      begun = begun;
      state = s;
      carrying = subst (Carrying begun style unsent s (p ∷ (ps ++ rest))) (sym (ap (λ m. take m next) (is ∙ omega arith) ∙ front)) c;
      goes_on_is = on;
      few = fits;
      spelled = h;
      held_is = refl;
      last_is = refl;
    }

    fresh : pixel_eq p s.last ≡ false → (k : ℕ) → s.carry ≡ k → Ready style unsent s (p ∷ ps) (p ∷ (ps ++ rest)) x (take end next)
    fresh e zero none = stays (ends false false 0 e none (le-ltb 0 0 (omega arith))) (λ some. absurd (omega (arith, none, some))) (omega (arith, none))
    fresh e (suc k) some =
        let differs : p ≢ s.last = λ same. true≢false (sym (pixel_eq-from p s.last same) ∙ e) in
        let bytes : kept ++ group_bytes style s.named s.last (suc k) ≡ take end next =
        ap (λ z. kept ++ z) (same_group style s.named placed s.last (suc k) named_is) ∙ (λ i. kept ++ group_bytes style placed s.last (sym some i))
        ∙ sym (ap (λ m. take m next) (ends false true (suc k) e some (lt-ltb 0 (suc k) (omega arith))) ∙ run (omega (arith, some))) in
        record {
          begun = true;
          state = flushed_state s;
          carrying = subst (Carrying true style unsent (flushed_state s) (p ∷ (ps ++ rest))) bytes (flushed s p (ps ++ rest) k c differs some (omega (arith, some, small)));
          goes_on_is = λ some. absurd (omega arith);
          few = omega arith;
          spelled = spelled_anew style s p ps x e h;
          held_is = refl;
          last_is = refl;
        }

    go : (b : Bool) → pixel_eq p s.last ≡ b → Ready style unsent s (p ∷ ps) (p ∷ (ps ++ rest)) x (take end next)
    go true e =
        let same = pixel_eq-true p s.last e in
        stays (ends true false s.carry e refl (le-ltb 255 s.carry (omega (arith, small)))) (λ some. same) (few (ap Some same))
    go false e = fresh e s.carry refl

-- as many repeats are carried after pixels as came
carry_most : (s : State) (ps : List RgbaPixel) → (end_state s ps).carry ≤ s.carry + length ps
carry_most s [] = omega arith
carry_most s (p ∷ ps) =
    omega (arith, carry_most (next_state s p ps) ps, carry_few (pixel_eq p s.last) (goes_on (lanes_of (p ∷ s.held) p ps)) s p)

-- after pixels that don't all repeat fewer are carried than there are
carry_below : (s : State) (ps : List RgbaPixel) → fresh_marks s.last ps ≢ 0 → (end_state s ps).carry < length ps
carry_below s [] mixed = absurd (mixed refl)
carry_below s (p ∷ ps) mixed = go (carry_below t ps) (pixel_eq p s.last) refl
  where
    t : State
    t = next_state s p ps

    go : (fresh_marks p ps ≢ 0 → (end_state t ps).carry < length ps) → (b : Bool) → pixel_eq p s.last ≡ b → (end_state t ps).carry < suc (length ps)
    go below true is = omega (arith, below (λ none. mixed (rw is (omega (arith, none)))))
    go below false is = omega (arith, carry_most t ps, ap (λ b. (next_by b (goes_on (lanes_of (p ∷ s.held) p ps)) s p).carry) is)

-- after repeats what is carried is all of them, and the chunk before them is the same
all_repeats : (s : State) (ps : List RgbaPixel) → fresh_marks s.last ps ≡ 0 → ((end_state s ps).carry ≡ s.carry + length ps) × ((end_state s ps).named ≡ s.named)
all_repeats s [] all = (omega arith, refl)
all_repeats s (p ∷ ps) all =
    let first = none_first (pixel_eq p s.last) (fresh_marks p ps) all in
    let next : next_state s p ps ≡ next_by true true s p = λ i. next_by (first.0 i) (again ps first.1 i) s p in
    let h = all_repeats (next_by true true s p) ps first.1 in (
      ap (λ t. (end_state t ps).carry) next ∙ h.0 ∙ omega arith,
      ap (λ t. (end_state t ps).named) next ∙ h.1,
    )
  where
    again : (ps : List RgbaPixel) → fresh_marks p ps ≡ 0 → goes_on (lanes_of (p ∷ s.held) p ps) ≡ true
    again [] all = refl
    again (q ∷ qs) all = (none_first (pixel_eq q p) (fresh_marks q qs) all).0

-- the chunk before the carried repeats names their position if the last fresh pixel stood there
end_placed : (s : State) (ps : List RgbaPixel) → fresh_marks s.last ps ≢ 0
    → (end_state s ps).named ≡ get_or (stand_tests s.held ps) (length ps - 1 - (end_state s ps).carry) false
end_placed s [] mixed = absurd (mixed refl)
end_placed s (p ∷ ps) mixed = go (end_placed t ps) (cases_eq (fresh_marks p ps) 0)
  where
    t : State
    t = next_state s p ps

    tests : List Bool
    tests = stand_tests s.held (p ∷ ps)

    fresh : (b : Bool) → pixel_eq p s.last ≡ b → fresh_marks p ps ≡ 0 → t ≡ next_by false (goes_on (lanes_of (p ∷ s.held) p ps)) s p
    fresh true e none = absurd (mixed (rw e (omega (arith, none))))
    fresh false e none = ap (λ b. next_by b (goes_on (lanes_of (p ∷ s.held) p ps)) s p) e

    go : (fresh_marks p ps ≢ 0 → (end_state t ps).named ≡ get_or (stand_tests (p ∷ s.held) ps) (length ps - 1 - (end_state t ps).carry) false)
        → (fresh_marks p ps ≡ 0) ⊎ (fresh_marks p ps ≢ 0) → (end_state t ps).named ≡ get_or tests (suc (length ps) - 1 - (end_state t ps).carry) false
    go before (inl none) =
        let h = all_repeats t ps none in
        let f = fresh (pixel_eq p s.last) refl none in
        let no_carry : t.carry ≡ 0 = ap (λ (z : State). z.carry) f in
        let first : suc (length ps) - 1 - (end_state t ps).carry ≡ 0 = (let c = h.0 in omega arith) in
        h.1 ∙ ap (λ (z : State). z.named) f ∙ sym (ap (λ n. get_or tests n false) first)
    go before (inr some) =
        let below = carry_below t ps some in
        let later : suc (length ps) - 1 - (end_state t ps).carry ≡ suc (length ps - 1 - (end_state t ps).carry) = omega arith in
        before some ∙ sym (ap (λ n. get_or tests n false) later)

-- over a block of these pixels
pub block_step : {N : ℕ} (style : Style) (unsent : List ℕ) (n : ℕ) (s : State) (rest more all : List RgbaPixel) (x : Spelled) (p : Planes) (table : List RgbaPixel) (carry : Carry N) (kept next : List ℕ)
    → AreSixteen all → fresh_marks s.last all ≢ 0 → ArePlanes all p
    → Ready style unsent s all (all ++ (rest ++ more)) x kept → Holds table (reverse all ++ s.held)
    → (style ≡ Tight → NoAbsentBlank s.held s.last all)
    → carry.before ≡ p → carry.count ≡ slice_index x.count 15 % 16
    → (style ≡ Places → carry.named ≡ get_or (stand_tests s.held all) (15 - carry.count) false)
    → ((t : State) → HasSpelled style t all x → t.last ≡ s.last → t.carry ≤ 45 → next ≡ kept ++ block_bytes style t all)
    → InBlocks style unsent n rest more table carry next
block_step style unsent n s rest more all x p table carry kept next sixteen mixed planes r holds none before_is count_is named bytes =
    let t = r.state in
    let end = end_state t all in
    let long = sixteen.long in
    let few : t.carry + length all < 62 = (let f = r.few in omega arith) in
    let done = block_written t all (rest ++ more) (omega arith) r.carrying r.goes_on_is few (λ tight. subst (λ h. NoAbsentBlank h t.last all) (sym r.held_is) (subst (λ q. NoAbsentBlank s.held q all) (sym r.last_is) (none tight))) in
    let counted = last_counted t r.spelled in
    let mixed_lanes : fresh_marks t.last all ≢ 0 = subst (λ q. fresh_marks q all ≢ 0) (sym r.last_is) mixed in
    let below = carry_below t all mixed_lanes in
    let at_lane : length all - 1 - end.carry ≡ 15 - carry.count = omega arith in
    let stood : end.named ≡ get_or (stand_tests s.held all) (15 - carry.count) false =
    end_placed t all mixed_lanes ∙ (λ i. get_or (stand_tests (r.held_is i) all) (at_lane i) false) in
    let carried : end.carry ≡ carry.count = omega arith in
    let last = subst (λ z. end.last ≡ last_pixel z) (sym before_is) (end_last t all p sixteen planes) in
    record {
      last = record { repeats = carry.count; px = last_pixel carry.before; begun = true; named = carry.named; few = carry.few };
      is = record { px_is = refl; count_is = refl; named_is = refl };
      between = record {
        past = done.past;
        before = done.before;
        to_write = subst (λ k. Unsent style unsent done.past done.before k (rest ++ more) next) carried
            (subst (Unsent style unsent done.past done.before end.carry (rest ++ more)) (sym (bytes t r.spelled r.last_is r.few)) done.to_write);
        state = record {
          table_is = λ i l. holds i l ∙ ap Some (ap (λ h. seen h i) (sym (end_held t all ∙ ap (λ h. reverse all ++ h) r.held_is)) ∙ done.held_is i);
          last_is = sym (done.last_is ∙ last);
          begun_is = sym done.begun_is;
          named_is = λ places. named places ∙ sym stood ∙ done.named_is ∙ ap (λ q. names done.before (hash q)) (sym done.last_is);
        };
      };
      goes = carries_on refl (λ _. omega (arith, carried, below, long));
    }
  where
    last_counted : (t : State) → HasSpelled style t all x → slice_index x.count 15 ≡ (end_state t all).carry
    last_counted t h =
        let rs = map is_rep (lanes_of t.held t.last all) in
        let long : length rs ≡ 16 = length-map (lanes_of t.held t.last all) is_rep ∙ lanes_long t.held t.last all ∙ sixteen.long in
        ap (λ z. slice_index z 15) h.count_is ∙ ap (λ n. get_or (t.carry ∷ counts t.carry rs) n 0) (sym long) ∙ last_count t all
