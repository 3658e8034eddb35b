-- Each image has a written list, whatever the choice of a chunk for a fresh pixel, if there is one
-- for each: it grows at its end by the runs of a group of repeats, and by a fresh pixel's chunk.
use Rattle.std.proofs.Common.{◌≡◌, ◌≢◌, ℕ, zero, suc, ◌+◌, ◌*◌, ◌/◌, ◌%◌, ◌<◌, false, List, [], ◌∷◌, ◌++◌, reverse, replicate, refl, sym, ap, ◌∙◌, subst, subst₂, arith, append_assoc, append-nil, inl, inr, Some}
use Rattle.std.proofs.lemmas.List.{reverse-reverse, reverse-append}
use Rattle.qoi.specs.Qoi.{Chunk, Run, Place, RgbaPixel, Past, previous, IsChunk, AreChunks, pixel_after, then_chunks, Each, IsPixel, pixel_eq, start, seen, hash}
use Rattle.qoi.specs.Runs.{last_by, runs_by}
use Rattle.qoi.specs.Written.{IsAllowedAfter, IsFullBefore, RunsFollowFull, WrittenBy, noted, rank, IsFirst, IsChoice}
use Rattle.qoi.specs.Styles.{Reference, is_run, names}
use Rattle.qoi.proofs.format.ChunkSteps.{all_append, previous_repeats, repeats_after, right_from, full_other, full_before, then_other, then_chunks-append, each_append}
use Rattle.std.proofs.lemmas.Bool.{cond-true, cond-false}
use Rattle.std.specs.List.{AllByRecursion}
use Rattle.qoi.proofs.format.SamePixels.{cases_pixel, hash_below, pixel_eq-from, pixel_eq-ne}
use Rattle.qoi.proofs.encoding.lists.ListAhead.{repeat_ahead, fresh_ahead}
use Rattle.qoi.proofs.encoding.lists.NotedPixels.{noted_seen}
use Rattle.qoi.proofs.encoding.coder.Spelled.{first_is}
use Rattle.qoi.specs.WrittenList.{first_chunk, chosen, list_after}
use Rattle.qoi.proofs.encoding.lists.WrittenOnce.{choice_unique}

-- a run of any length may follow the list
abbrev pub RunMayFollow : List Chunk → Type 0
RunMayFollow cs = (n : ℕ) → RunsFollowFull (cs ++ Run n ∷ [])

-- what may follow a chunk depends on the next one alone
same_next : (c d : Chunk) (cs ds : List Chunk) → IsFullBefore c (d ∷ cs) → IsFullBefore c (d ∷ ds)
same_next (Run m) (Run n) cs ds h = h
same_next c d cs ds h = tt

-- a list whose last chunk begins another, which follows it
full_join : (cs ds : List Chunk) (c : Chunk) → RunsFollowFull (cs ++ c ∷ []) → RunsFollowFull (c ∷ ds) → RunsFollowFull (cs ++ c ∷ ds)
full_join [] ds c h k = k
full_join (d ∷ []) ds c h k = (same_next d c [] ds h.0, k)
full_join (d ∷ e ∷ cs) ds c h k = (same_next d e (cs ++ c ∷ []) (cs ++ c ∷ ds) h.0, full_join (e ∷ cs) ds c h.1 k)

-- the list with a chunk other than a run at its end
full_push : (cs : List Chunk) (c : Chunk) → is_run c ≡ false → RunsFollowFull cs → RunsFollowFull (cs ++ c ∷ [])
full_push [] c o h = (full_other c [] o, tt)
full_push (d ∷ []) c o h = (full_before d c [] o, (full_other c [] o, tt))
full_push (d ∷ e ∷ cs) c o h = (same_next d e cs (cs ++ c ∷ []) h.0, full_push (e ∷ cs) c o h.1)

-- chunks after chunks
pub chunks_split : (a b d : List Chunk) (c : Chunk) → ((a ++ b) ++ c ∷ []) ++ d ≡ a ++ (b ++ c ∷ d)
chunks_split a b d c = append_assoc (a ++ b) (c ∷ []) d ∙ append_assoc a b (c ∷ d)

module _ (Choice : Past → RgbaPixel → Chunk → Type 0) where
  -- an empty image's list is empty
  pub written_none : WrittenBy Choice [] []
  written_none = record { chunks = tt; means = refl; allowed = tt; full = tt }

  -- the pixels after a list that is written for them
  then_written : (past : Past) (cs : List Chunk) → WrittenBy Choice (reverse past) cs → then_chunks [] cs ≡ past
  then_written past cs w = sym (reverse-reverse (then_chunks [] cs)) ∙ ap reverse w.means ∙ reverse-reverse past

  -- more chunks are written at its end
  written_append : (past after : Past) (cs ds : List Chunk) → WrittenBy Choice (reverse past) cs → AreChunks ds → then_chunks past ds ≡ after
      → Each (IsAllowedAfter Choice) past ds → RunsFollowFull (cs ++ ds) → WrittenBy Choice (reverse after) (cs ++ ds)
  written_append past after cs ds w are means right full =
      let before : then_chunks [] cs ≡ past = then_written past cs w in
      record {
        chunks = all_append IsChunk cs ds w.chunks are;
        means = ap reverse (then_chunks-append [] cs ds ∙ ap (λ x. then_chunks x ds) before ∙ means);
        allowed = each_append (IsAllowedAfter Choice) [] cs ds w.allowed (rw before right);
        full = full;
      }

  -- `m` times 62 repeats are written as `m` full runs, and a run may follow
  full_runs : (m : ℕ) (past : Past) (q : RgbaPixel) (cs : List Chunk) → q ≡ previous past → WrittenBy Choice (reverse past) cs → RunMayFollow cs
      → WrittenBy Choice (reverse (replicate (m * 62) q ++ past)) (cs ++ replicate m (Run 62)) × RunMayFollow (cs ++ replicate m (Run 62))
  full_runs zero past q cs is w may = rw (append-nil cs) (w, may)
  full_runs (suc m) past q cs is w may =
      let again : q ≡ previous (replicate 62 q ++ past) = refl in
      let first = written_append past (replicate 62 q ++ past) cs (Run 62 ∷ []) w ((omega arith, omega arith), tt)
      (ap (λ p. replicate 62 p ++ past) (sym is)) (tt, tt) (may 62) in
      let follows : RunMayFollow (cs ++ Run 62 ∷ []) = (λ n. rw append_assoc (full_join cs (Run n ∷ []) (Run 62) (may 62) (refl, (tt, tt)))) in
      let more = full_runs m (replicate 62 q ++ past) q (cs ++ Run 62 ∷ []) again first follows in
      let count : m * 62 + 62 ≡ suc m * 62 = omega arith in
      let pixels : replicate (m * 62) q ++ (replicate 62 q ++ past) ≡ replicate (suc m * 62) q ++ past = repeats_after (m * 62) 62 q past
      ∙ ap (λ k. replicate k q ++ past) count in
      subst₂ (λ p c. WrittenBy Choice (reverse p) c × RunMayFollow c) pixels (append_assoc cs (Run 62 ∷ []) (replicate m (Run 62))) more

  -- the last run of a group is written
  written_last : (k : ℕ) (past : Past) (cs : List Chunk) → k < 62 → WrittenBy Choice (reverse past) cs → RunMayFollow cs
      → WrittenBy Choice (reverse (replicate k (previous past) ++ past)) (cs ++ last_by (Run 1) k)
  written_last zero past cs short w may = rw (append-nil cs) w
  written_last (suc zero) past cs short w may =
      written_append past (previous past ∷ past) cs (Run 1 ∷ []) w ((omega arith, omega arith), tt) refl (tt, tt) (may 1)
  written_last (suc (suc k)) past cs short w may =
      written_append past (replicate (suc (suc k)) (previous past) ++ past) cs (Run (suc (suc k)) ∷ []) w ((omega arith, omega arith), tt) refl (tt, tt)
      (may (suc (suc k)))

  -- the runs of a group are written
  pub written_runs : (past : Past) (n : ℕ) (cs : List Chunk) → WrittenBy Choice (reverse past) cs → RunMayFollow cs
      → WrittenBy Choice (reverse (replicate n (previous past) ++ past)) (cs ++ runs_by (Run 1) n)
  unfolding runs_by
  written_runs past n cs w may =
      let q = previous past in
      let many = n / 62 * 62 in
      let fulls = full_runs (n / 62) past q cs refl w may in
      let short : n % 62 < 62 = omega arith in
      let all = written_last (n % 62) (replicate many q ++ past) (cs ++ replicate (n / 62) (Run 62)) short fulls.0 fulls.1 in
      let count : n % 62 + many ≡ n = omega arith in
      let pixels : replicate (n % 62) (previous (replicate many q ++ past)) ++ (replicate many q ++ past) ≡ replicate n q ++ past
      = ap (λ p. replicate (n % 62) p ++ (replicate many q ++ past)) (previous_repeats many past) ∙ repeats_after (n % 62) many q past
      ∙ ap (λ k. replicate k q ++ past) count in
      subst₂ (λ p c. WrittenBy Choice (reverse p) c) pixels (append_assoc cs (replicate (n / 62) (Run 62)) (last_by (Run 1) (n % 62))) all

  -- a fresh pixel's chunk is written, and a run may follow
  pub written_fresh : (past : Past) (cs : List Chunk) (p : RgbaPixel) (c : Chunk) → WrittenBy Choice (reverse past) cs → p ≢ previous past → IsChunk c
      → is_run c ≡ false → pixel_after past c ≡ p → Choice past p c
      → WrittenBy Choice (reverse (p ∷ past)) (cs ++ c ∷ []) × RunMayFollow (cs ++ c ∷ [])
  written_fresh past cs p c w fresh is other gives choice = (
    written_append past (p ∷ past) cs (c ∷ []) w (is, tt) (then_other past c other ∙ ap (λ x. x ∷ past) gives)
        (right_from Choice past c (record { is_fresh = rw gives fresh; is_chosen = rw gives choice }), tt) (full_push cs c other w.full),
    λ n. rw append_assoc (full_join cs (Run n ∷ []) c (full_push cs c other w.full) (full_other c _ other, (tt, tt))),
  )

-- the chunk is an index position where the pixel is seen, or the first chunk that spells it out
abbrev pub SeenOrFirst : Past → RgbaPixel → Chunk → Type 0
SeenOrFirst past p (Place i) = seen past i ≡ p
SeenOrFirst past p c = IsFirst past p c

-- the first chunk is
pub by_first : (past : Past) (p : RgbaPixel) (c : Chunk) → IsFirst past p c → SeenOrFirst past p c
by_first past p (Place i) f = f.gives
by_first past p c f = f

-- such a chunk gives the pixel
pub gives_pixel : (past : Past) (p : RgbaPixel) (c : Chunk) → SeenOrFirst past p c → pixel_after past c ≡ p
gives_pixel past p (Place i) is = is
gives_pixel past p c is = is.gives

-- and is no run
pub no_run : (past : Past) (p : RgbaPixel) (c : Chunk) → SeenOrFirst past p c → is_run c ≡ false
no_run past p (Run n) is = let spells = is.spells in absurd (omega arith)
no_run past p c is = refl

-- What a choice has to offer: for each fresh pixel there is one chunk, which `choose` gives.
pub record Chooses (Choice : Past → RgbaPixel → Chunk → Type 0) (choose : Past → RgbaPixel → Chunk) : Type 0 where
  pub some : (past : Past) (p : RgbaPixel) → IsPixel (previous past) → IsPixel p → IsChunk (choose past p) × Choice past p (choose past p)
  pub only : (past : Past) (p : RgbaPixel) (c d : Chunk) → IsChunk c → IsChunk d → Choice past p c → Choice past p d → c ≡ d
  pub is : (past : Past) (p : RgbaPixel) (c : Chunk) → Choice past p c → SeenOrFirst past p c

-- the pixel before the first one is a pixel
pub is_pixel_start : IsPixel start
unfolding start
is_pixel_start = record { r = omega arith; g = omega arith; b = omega arith; a = omega arith }

-- a chunk is chosen for a fresh pixel
choice_some : (past : Past) (p : RgbaPixel) → IsPixel (previous past) → IsPixel p
    → IsChunk (chosen Reference past p) × IsChoice past p (chosen Reference past p)
choice_some past p iq ip =
    let held = noted past (hash p) in
    let first = first_chunk (previous past) p in
    let P : Chunk → Type 0 = λ c. IsChunk c × IsChoice past p c in
    elim (cases_pixel held p) as (λ _. P (chosen Reference past p)) [
      | inl is ↦ subst P (sym (cond-true (pixel_eq held p) (Place (hash p)) first (pixel_eq-from held p is)))
          (hash_below p, record { place = λ _. refl; spelled = λ n. absurd (n is) })
      | inr n ↦ let f = first_is past p iq ip in
          subst P (sym (cond-false (pixel_eq held p) (Place (hash p)) first (pixel_eq-ne held p n))) (f.0, record { place = λ is. absurd (n is); spelled = λ _. f.1 })
    ]

-- a chunk that spells a pixel out is no index position
pub spells_no_place : (c : Chunk) (i : ℕ) → 0 < rank c → names (Some c) i ≡ false
spells_no_place (Place j) i h = absurd (omega arith)
spells_no_place c i h = refl

-- the chunk is such a one
pub choice_is : (past : Past) (p : RgbaPixel) (c : Chunk) → IsChoice past p c → SeenOrFirst past p c
choice_is past p c w = elim (cases_pixel (noted past (hash p)) p) as (λ _. SeenOrFirst past p c) [
  | inl is ↦ subst (SeenOrFirst past p) (sym (w.place is)) (noted_seen past p is)
  | inr other ↦ by_first past p c (w.spelled other)
]

-- `IsChoice` has what a choice has to offer
pub chooses : Chooses IsChoice (chosen Reference)
chooses = record { some = choice_some; only = choice_unique; is = choice_is }

module _ (Choice : Past → RgbaPixel → Chunk → Type 0) (choose : Past → RgbaPixel → Chunk) (choices : Chooses Choice choose) where
  -- a repeat joins its group
  joined : (p q : RgbaPixel) (n : ℕ) (past : Past) (rest : List RgbaPixel) → p ≡ q
      → reverse (replicate (suc n) q ++ past) ++ rest ≡ reverse (replicate n q ++ past) ++ p ∷ rest
  joined p q n past rest e =
      ap (λ x. x ++ rest) (reverse-append (q ∷ []) (replicate n q ++ past))
      ∙ append_assoc (reverse (replicate n q ++ past)) (q ∷ []) rest
      ∙ ap (λ x. reverse (replicate n q ++ past) ++ x ∷ rest) (sym e)

  -- and a fresh pixel's chunk follows the runs of the group before it
  fresh_joined : (p : RgbaPixel) (group : Past) (rest : List RgbaPixel) (cs rs more : List Chunk) (c : Chunk)
      → WrittenBy Choice (reverse (p ∷ group) ++ rest) (((cs ++ rs) ++ c ∷ []) ++ more) → WrittenBy Choice (reverse group ++ p ∷ rest) (cs ++ (rs ++ c ∷ more))
  fresh_joined p group rest cs rs more c w = subst₂ (λ x y. WrittenBy Choice x y) (joined p p 0 group rest refl) (chunks_split cs rs more c) w

  -- a written list of the pixels before a group extends to one of the image, whatever pixels follow
  written_after : (rest : List RgbaPixel) (past : Past) (n : ℕ) (cs : List Chunk) → WrittenBy Choice (reverse past) cs → RunMayFollow cs
      → IsPixel (previous past) → AllByRecursion IsPixel rest
      → WrittenBy Choice (reverse (replicate n (previous past) ++ past) ++ rest) (cs ++ list_after choose past n rest)
  unfolding list_after
  written_after [] past n cs w may before are =
      rw (append-nil (reverse (replicate n (previous past) ++ past))) (written_runs Choice past n cs w may)
  written_after (p ∷ rest) past n cs w may before are =
      let group : Past = replicate n (previous past) ++ past in
      let P : List Chunk → Type 0 = λ more. WrittenBy Choice (reverse group ++ p ∷ rest) (cs ++ more) in
      elim (cases_pixel p (previous past)) as (λ _. P (list_after choose past n (p ∷ rest))) [
        | inl again ↦
            subst P (sym (repeat_ahead choose past n p rest again))
            (subst (λ x. WrittenBy Choice x (cs ++ list_after choose past (suc n) rest)) (joined p (previous past) n past rest again) (written_after rest past (suc n) cs w may before are.1))
        | inr fresh ↦
            let same : previous group ≡ previous past = previous_repeats n past in
            let differs : p ≢ previous group = λ e. fresh (e ∙ same) in
            let c = choose group p in
            let is = choices.some group p (subst IsPixel (sym same) before) are.0 in
            let given = choices.is group p c is.1 in
            let next = written_fresh Choice group (cs ++ runs_by (Run 1) n) p c (written_runs Choice past n cs w may) differs is.0 (no_run group p c given)
            (gives_pixel group p c given) is.1 in
            let all = written_after rest (p ∷ group) 0 ((cs ++ runs_by (Run 1) n) ++ c ∷ []) next.0 next.1 are.0 are.1 in
            subst P (sym (fresh_ahead choose past n p rest fresh))
            (fresh_joined p group rest cs (runs_by (Run 1) n) (list_after choose (p ∷ group) 0 rest) c all)
      ]

  -- so an image has a written list
  pub image_written : (image : List RgbaPixel) → AllByRecursion IsPixel image → WrittenBy Choice image (list_after choose [] 0 image)
  image_written image are = written_after image [] 0 [] (written_none Choice) (λ n. (tt, tt)) is_pixel_start are
