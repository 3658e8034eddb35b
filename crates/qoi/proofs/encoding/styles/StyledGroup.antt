-- What a style makes of the next chunks of a written list: those of a group of repeats, and of the
-- fresh pixel after it.
use Rattle.std.proofs.Common.{◌≡◌, ℕ, zero, suc, ◌+◌, ◌*◌, ◌/◌, ◌%◌, true, false, not, Bool, ◌&&◌, nat_eq, nat_lt, ◌<◌, ◌⊎◌, inl, inr, if◌then◌else◌, List, [], ◌∷◌, ◌++◌, replicate, Option, Some, refl, sym, ap, ◌∙◌, arith, append_assoc}
use Rattle.std.proofs.lemmas.Bool.{lt-ltb, ne_eqb}
use Rattle.std.specs.List.{list_any}
use Rattle.qoi.specs.Qoi.{Chunk, Place, Run, RgbaPixel, Past, previous, hash, pixel_after, then_chunk}
use Rattle.qoi.specs.Runs.{last_by, runs_by}
use Rattle.qoi.specs.Styles.{Style, Places, is_run, fresh_next, some_fresh, names, place_for, placed_after, styled}
use Rattle.qoi.specs.inner.Coder.{single_chunk, last_chunk}
use Rattle.qoi.proofs.format.ChunkSteps.{previous_repeats, repeats_after, then_other}
use Rattle.qoi.proofs.encoding.coder.CoderTable.{fresh_repeats}
use Rattle.qoi.proofs.encoding.lists.GroupRuns.{not_one}
use Rattle.qoi.proofs.encoding.lists.ListAhead.{runs_none}

-- the chunk before the rest of a group that has this number of runs of 62
abbrev before_rest : Option Chunk → ℕ → Option Chunk
before_rest before zero = before
before_rest before (suc k) = Some (Run 62)

-- it is Run 62 if `before` is
after_full_run : (k : ℕ) → before_rest (Some (Run 62)) k ≡ Some (Run 62)
after_full_run zero = refl
after_full_run (suc k) = refl

-- the runs of 62 stay
full_stay : (k : ℕ) (past : Past) (before : Option Chunk) (cs : List Chunk)
    → placed_after past before (replicate k (Run 62) ++ cs) ≡ replicate k (Run 62) ++ placed_after (replicate (62 * k) (previous past) ++ past)
    (before_rest before k) cs
full_stay zero past before cs = refl
full_stay (suc k) past before cs =
    let q = previous past in
    let same : previous (replicate 62 q ++ past) ≡ q = previous_repeats 62 past in
    let many : 62 * k + 62 ≡ 62 * suc k = omega arith in
    let joined : replicate (62 * k) (previous (replicate 62 q ++ past)) ++ (replicate 62 q ++ past) ≡ replicate (62 * suc k) q ++ past
    = ap (λ p. replicate (62 * k) p ++ (replicate 62 q ++ past)) same ∙ repeats_after (62 * k) 62 q past ∙ ap (λ n. replicate n q ++ past) many in
    ap (λ x. Run 62 ∷ x) (full_stay k (replicate 62 q ++ past) (Some (Run 62)) cs
    ∙ ap (λ x. replicate k (Run 62) ++ placed_after x (before_rest (Some (Run 62)) k) cs) joined
    ∙ ap (λ b. replicate k (Run 62) ++ placed_after (replicate (62 * suc k) q ++ past) b cs) (after_full_run k))

-- a chunk other than a run stays
other_stays : (past : Past) (before : Option Chunk) (c : Chunk) (cs : List Chunk) → is_run c ≡ false → place_for past before c cs ≡ c
other_stays past before (Run n) cs e = absurd (let x = e in cc)
other_stays past before c cs e = refl

-- a single repeat before a fresh pixel's chunk
abbrev single : Past → Option Chunk → Chunk
single past before = if some_fresh past && not (names before (hash (previous past))) then Place (hash (previous past)) else Run 1

-- how the rest of a group of n is written, if it is single
single_is : (past : Past) (before : Option Chunk) (k : ℕ) → single (replicate (62 * k) (previous past) ++ past) (before_rest before k) ≡ single_chunk Places
    (some_fresh past) (names before (hash (previous past))) (hash (previous past)) (62 * k + 1)
single_is past before zero = refl
single_is past before (suc k) =
    let more : nat_lt 1 (62 * suc k + 1) ≡ true = lt-ltb 1 (62 * suc k + 1) (omega arith) in
    let still : some_fresh (replicate (62 * suc k) (previous past) ++ past) ≡ some_fresh past = ap (list_any (λ p. true)) (fresh_repeats (62 * suc k) past) in
    rw (still, more, previous_repeats (62 * suc k) past) refl

-- the rest of a group that isn't single is a run, whichever chunk stands for a single one
last_same : (r : ℕ) (c d : Chunk) → (r ≡ 1 → c ≡ d) → last_by c r ≡ last_by d r
last_same (suc zero) c d e = ap (λ x. x ∷ []) (e refl)
last_same r c d e = refl

-- the same of a group's runs
plain : (n : ℕ) (one : Chunk) → (n % 62 ≡ 1 → one ≡ Run 1) → runs_by (Run 1) n ≡ runs_by one n
unfolding runs_by
plain n one is = ap (λ x. replicate (n / 62) (Run 62) ++ x) (last_same (n % 62) (Run 1) one (λ e. sym (is e)))

-- the last chunk of full runs, and then of others
last_fulls : (k : ℕ) (before : Option Chunk) (cs : List Chunk) → last_chunk before (replicate k (Run 62) ++ cs) ≡ last_chunk (before_rest before k) cs
last_fulls zero before cs = refl
last_fulls (suc k) before cs = last_fulls k (Some (Run 62)) cs ∙ ap (λ b. last_chunk b cs) (after_full_run k)

-- How a single repeat that is left of a group is written before these chunks: at the end by a run,
-- and before a fresh pixel as the style has it.
abbrev pub WritesOne : Style → Past → Option Chunk → ℕ → List Chunk → Chunk → Type 0
WritesOne style past before n left one =
    ((left ≡ []) × (one ≡ Run 1)) ⊎ ((fresh_next left ≡ true)
    × (one ≡ single_chunk style (some_fresh past) (names before (hash (previous past))) (hash (previous past)) n))

-- the rest of a group after its full runs
rest_stays : (r : ℕ) (past : Past) (before : Option Chunk) (left : List Chunk) (one : Chunk)
    → (r ≡ 1 → ((left ≡ []) × (one ≡ Run 1)) ⊎ ((fresh_next left ≡ true) × (one ≡ single past before)))
    → placed_after past before (last_by (Run 1) r ++ left)
    ≡ last_by one r ++ placed_after (replicate r (previous past) ++ past) (last_chunk before (last_by (Run 1) r)) left
rest_stays zero past before left one is = refl
rest_stays (suc (suc r)) past before left one is =
    ap (λ t. (if t && fresh_next left && some_fresh past && not (names before (hash (previous past))) then Place (hash (previous past))
    else Run (suc (suc r))) ∷ placed_after (replicate (suc (suc r)) (previous past) ++ past) (Some (Run (suc (suc r)))) left) (not_one r)
rest_stays (suc zero) past before left one is = go (is refl)
  where
    go : ((left ≡ []) × (one ≡ Run 1)) ⊎ ((fresh_next left ≡ true) × (one ≡ single past before))
        → placed_after past before (Run 1 ∷ left) ≡ one ∷ placed_after (previous past ∷ past) (Some (Run 1)) left
    go (inl (none, e)) = rw (none, e) refl
    go (inr (fresh, e)) =
        ap (λ x. x ∷ placed_after (previous past ∷ past) (Some (Run 1)) left)
        (ap (λ t. if t && some_fresh past && not (names before (hash (previous past))) then Place (hash (previous past)) else Run 1) fresh ∙ sym e)

-- the chunks of a group of repeats, and what follows them
pub styled_runs : (style : Style) (past : Past) (before : Option Chunk) (n : ℕ) (left : List Chunk) (one : Chunk)
    → (n % 62 ≡ 1 → WritesOne style past before n left one)
    → styled style past before (runs_by (Run 1) n ++ left)
    ≡ runs_by one n ++ styled style (replicate n (previous past) ++ past) (last_chunk before (runs_by (Run 1) n)) left
unfolding runs_by
styled_runs Places past before n left one is =
    let q = previous past in
    let k = n / 62 in
    let r = n % 62 in
    let end : Past = replicate (62 * k) q ++ past in
    let same : previous end ≡ q = previous_repeats (62 * k) past in
    let count : r + 62 * k ≡ n = omega arith in
    let group : replicate r (previous end) ++ end ≡ replicate n q ++ past = ap (λ x. replicate r x ++ end) same ∙ repeats_after r (62 * k) q past
    ∙ ap (λ m. replicate m q ++ past) count in
    let one_is : r ≡ 1 → ((left ≡ []) × (one ≡ Run 1)) ⊎ ((fresh_next left ≡ true) × (one ≡ single end (before_rest before k)))
    = λ e. (let whole : 62 * k + 1 ≡ n = omega arith in
    elim (is e) [
      | inl p ↦ inl p
      | inr p ↦ inr (p.0, p.1 ∙ ap (single_chunk Places (some_fresh past) (names before (hash q)) (hash q)) (sym whole) ∙ sym (single_is past before k))
    ]) in
    ap (λ x. placed_after past before x) (append_assoc (replicate k (Run 62)) (last_by (Run 1) r) left)
    ∙ full_stay k past before (last_by (Run 1) r ++ left)
    ∙ ap (λ x. replicate k (Run 62) ++ x) (rest_stays r end (before_rest before k) left one one_is
    ∙ (λ i. last_by one r ++ placed_after (group i) (sym (last_fulls k before (last_by (Run 1) r)) i) left))
    ∙ sym (append_assoc (replicate k (Run 62)) (last_by one r)
    (placed_after (replicate n q ++ past) (last_chunk before (replicate k (Run 62) ++ last_by (Run 1) r)) left))
styled_runs style past before n left one is = ap (λ x. x ++ left) (plain n one (λ e. elim (is e) [ inl p ↦ p.1 | inr p ↦ p.1 ]))

-- the chunk of a fresh pixel, and what follows it
pub styled_chunk : (style : Style) (past : Past) (before : Option Chunk) (p : RgbaPixel) (c : Chunk) (left : List Chunk) → is_run c ≡ false
    → pixel_after past c ≡ p
    → styled style past before (c ∷ left) ≡ c ∷ styled style (p ∷ past) (Some c) left
styled_chunk Places past before p c left other gives =
    ap (λ x. x ∷ placed_after (then_chunk past c) (Some c) left) (other_stays past before c left other)
    ∙ ap (λ x. c ∷ placed_after x (Some c) left) (then_other past c other ∙ ap (λ x. x ∷ past) gives)
styled_chunk style past before p c left other gives = refl

-- after repeats the last chunk is a run, and names no index position
rest_names_none : (k r : ℕ) (before : Option Chunk) (i : ℕ) → 0 < k + r → names (last_chunk (before_rest before k) (last_by (Run 1) r)) i ≡ false
rest_names_none zero zero before i some = absurd (omega arith)
rest_names_none (suc k) zero before i some = refl
rest_names_none k (suc zero) before i some = refl
rest_names_none k (suc (suc r)) before i some = refl

-- so it is of runs that are written
pub runs_name_none : (n : ℕ) (before : Option Chunk) (i : ℕ) → 0 < n → names (last_chunk before (runs_by (Run 1) n)) i ≡ false
unfolding runs_by
runs_name_none n before i some =
    ap (λ b. names b i) (last_fulls (n / 62) before (last_by (Run 1) (n % 62)))
    ∙ rest_names_none (n / 62) (n % 62) before i (omega arith)

-- whether the last chunk names the pixel's index position, after repeats
pub placed_repeats : (n : ℕ) (past : Past) (before : Option Chunk) (placed : Bool) → placed ≡ names before (hash (previous past))
    → placed && nat_eq n 0 ≡ names (last_chunk before (runs_by (Run 1) n)) (hash (previous (replicate n (previous past) ++ past)))
placed_repeats zero past before placed is =
    let same : placed && true ≡ placed = grind arith in
    same ∙ is ∙ ap (λ cs. names (last_chunk before cs) (hash (previous past))) (sym runs_none)
placed_repeats (suc n) past before placed is =
    let none : placed && false ≡ false = grind arith in
    ap (λ b. placed && b) (ne_eqb (suc n) 0 (λ e. omega arith)) ∙ none ∙ sym (runs_name_none (suc n) before _ (omega arith))
