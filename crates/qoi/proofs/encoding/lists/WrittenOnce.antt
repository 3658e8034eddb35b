-- An image has at most one written list, by any choice that allows at most one chunk for each fresh
-- pixel.
use Rattle.std.proofs.Common.{◌≡◌, ◌⊎◌, inl, inr, ℕ, zero, suc, ◌+◌, ◌-◌, false, ◌/◌, ◌%◌, ◌<◌, ◌≤◌, List, [], ◌∷◌, ◌++◌, length, replicate, refl, sym, ap, ◌∙◌, arith, append_assoc}
use Rattle.std.proofs.lemmas.List.{append_cancel_left, length-replicate, length-append, replicate-append-replicate}
use Rattle.qoi.specs.Qoi.{Chunk, Diff, Luma, Run, Rgb, Rgba, RgbaPixel, Past, previous, hash, IsChunk, AreChunks, pixel_after, times, then_chunk, after_diff, after_luma, Each}
use Rattle.qoi.specs.Written.{noted, rank, IsFirst, IsChoice, GivesFresh, IsAllowedAfter, RunsFollowFull, WrittenBy}
use Rattle.qoi.proofs.format.SamePixels.{cases_pixel}
use Rattle.qoi.specs.Styles.{is_run}
use Rattle.qoi.proofs.format.ChunkSteps.{cases_run, times_other, right_other, times_some, given, meaning_given}

-- two differences that give one pixel are one
diff_unique : (q : RgbaPixel) (d e : ℕ) → 64 ≤ d → d < 128 → 64 ≤ e → e < 128 → after_diff q d ≡ after_diff q e → d ≡ e
unfolding after_diff
diff_unique q d e dl dh el eh s = omega (arith, ap (λ p. p.r) s, ap (λ p. p.g) s, ap (λ p. p.b) s)

-- two lumas that give one pixel are one
luma_unique : (q : RgbaPixel) (d e x y : ℕ) → IsChunk (Luma d e) → IsChunk (Luma x y) → after_luma q d e ≡ after_luma q x y → Luma d e ≡ Luma x y
unfolding after_luma
luma_unique q d e x y c k s =
    let r = ap (λ p. p.r) s in
    let g = ap (λ p. p.g) s in
    let b = ap (λ p. p.b) s in
    let one : d ≡ x = omega arith in
    let high : e / 16 ≡ y / 16 = omega arith in
    let low : e % 16 ≡ y % 16 = omega arith in
    let two : e ≡ y = omega arith in
    cc

-- of one kind only one chunk gives a pixel
same_kind : (past : Past) (p : RgbaPixel) (c d : Chunk) → IsChunk c → IsChunk d → 0 < rank c → 0 < rank d → rank c ≤ rank d → rank d ≤ rank c
    → pixel_after past c ≡ p → pixel_after past d ≡ p → c ≡ d
same_kind past p (Diff d) (Diff e) ic id rc rd l g s t = ap (λ (n : ℕ). Diff n) (diff_unique (previous past) d e ic.0 ic.1 id.0 id.1 (s ∙ sym t))
same_kind past p (Luma d e) (Luma x y) ic id rc rd l g s t = luma_unique (previous past) d e x y ic id (s ∙ sym t)
same_kind past p (Rgb r g b) (Rgb x y z) ic id rc rd l h s t = let e = s ∙ sym t in λ i. Rgb (e i).r (e i).g (e i).b
same_kind past p (Rgba r g b a) (Rgba x y z w) ic id rc rd l h s t = let e = s ∙ sym t in λ i. Rgba (e i).r (e i).g (e i).b (e i).a
same_kind past p c d ic id rc rd l g s t = absurd (omega arith)

-- the first chunk that spells a pixel out is unique
pub first_unique : (past : Past) (p : RgbaPixel) (c d : Chunk) → IsChunk c → IsChunk d → IsFirst past p c → IsFirst past p d → c ≡ d
first_unique past p c d ic id f g =
    same_kind past p c d ic id f.spells g.spells (f.first d id g.spells g.gives) (g.first c ic f.spells f.gives) f.gives g.gives

-- chunks give some pixel
given_some : (past : Past) (c : Chunk) (cs : List Chunk) → IsChunk c → given past (c ∷ cs) ≡ [] → ⊥
given_some past c cs h e =
    let n : 0 < times c = times_some c h in
    let l : length (given past (c ∷ cs)) ≡ 0 = ap length e in
    let k : times c + length (given (then_chunk past c) cs) ≡ 0 = simp (length-append, length-replicate) at l in
    omega arith

-- the first pixel that a chunk other than a run gives
given_other : (past : Past) (c : Chunk) (cs : List Chunk) → is_run c ≡ false → given past (c ∷ cs) ≡ pixel_after past c ∷ given (then_chunk past c) cs
given_other past c cs h = rw (times_other c h) refl

-- the first members of equal lists are equal
pub same_first : {A : Type 0} (a b : A) (x y : List A) → a ∷ x ≡ b ∷ y → a ≡ b
same_first a b x y e = cc

-- chunks that may be written next
record Next (Choice : Past → RgbaPixel → Chunk → Type 0) (past : Past) (cs : List Chunk) : Type 0 where
  pub chunks : AreChunks cs
  pub allowed : Each (IsAllowedAfter Choice) past cs
  pub full : RunsFollowFull cs

module _ (Choice : Past → RgbaPixel → Chunk → Type 0)
    (unique : (past : Past) (p : RgbaPixel) (c d : Chunk) → IsChunk c → IsChunk d → Choice past p c → Choice past p d → c ≡ d) where
  -- what follows a run that isn't full is no repeat
  follows_run : (past : Past) (m : ℕ) (cs : List Chunk) (more : List RgbaPixel) → m < 62 → Next Choice past (Run m ∷ cs)
      → given (then_chunk past (Run m)) cs ≡ previous past ∷ more → ⊥
  follows_run past zero cs more l a e = let some = a.chunks.0.0 in absurd (omega arith)
  follows_run past (suc m) [] more l a e = absurd (cc)
  follows_run past (suc m) (Run n ∷ cs) more l a e = let full = a.full.0 in absurd (omega arith)
  follows_run past (suc m) c more l a e = absurd (a.allowed.1.0.is_fresh (same_first _ _ _ _ e))

  -- so if two lists that give the same begin with runs, neither run is longer
  not_longer : (past : Past) (m n : ℕ) (cs ds : List Chunk) → n ≤ 62 → Next Choice past (Run m ∷ cs)
      → given past (Run m ∷ cs) ≡ given past (Run n ∷ ds) → m < n → ⊥
  not_longer past m n cs ds l a e less =
      let k = n - suc m in
      let more = given (then_chunk past (Run n)) ds in
      let many : n ≡ m + suc k = omega arith in
      let s : replicate m (previous past) ++ given (then_chunk past (Run m)) cs ≡ replicate m (previous past) ++ (replicate (suc k) (previous past) ++ more)
      = e ∙ ap (λ x. replicate x (previous past) ++ more) many
      ∙ ap (λ x. x ++ more) (sym (replicate-append-replicate m (suc k) (previous past)))
      ∙ append_assoc (replicate m (previous past)) (replicate (suc k) (previous past)) more in
      follows_run past m cs (replicate k (previous past) ++ more) (omega (arith, less, l)) a (append_cancel_left _ _ _ s)

  -- two lists that give the same begin alike
  same_head : (past : Past) (c d : Chunk) (cs ds : List Chunk) → Next Choice past (c ∷ cs) → Next Choice past (d ∷ ds)
      → given past (c ∷ cs) ≡ given past (d ∷ ds) → c ≡ d
  same_head past c d cs ds a b e = go c d (cases_run c) (cases_run d) a b e
    where
      run_first : (n : ℕ) (x : Chunk) (xs ys : List Chunk) → IsChunk (Run n) → is_run x ≡ false → GivesFresh Choice past x
          → given past (Run n ∷ ys) ≡ given past (x ∷ xs) → ⊥
      run_first zero x xs ys i h g e = absurd (omega arith)
      run_first (suc n) x xs ys i h g e = g.is_fresh (sym (same_first _ _ _ _ (e ∙ given_other past x xs h)))

      runs : (m n : ℕ) → Next Choice past (Run m ∷ cs) → Next Choice past (Run n ∷ ds) → given past (Run m ∷ cs) ≡ given past (Run n ∷ ds) → m ≡ n
      runs m n a b e =
          let up = not_longer past m n cs ds b.chunks.0.1 a e in
          let down = not_longer past n m ds cs a.chunks.0.1 b (sym e) in
          grind (arith, up, down)

      go : (c d : Chunk) → ((n : ℕ) × (c ≡ Run n)) ⊎ (is_run c ≡ false) → ((n : ℕ) × (d ≡ Run n)) ⊎ (is_run d ≡ false)
          → Next Choice past (c ∷ cs) → Next Choice past (d ∷ ds) → given past (c ∷ cs) ≡ given past (d ∷ ds) → c ≡ d
      go c d (inl (m, is)) (inl (n, too)) a b e = is ∙ ap (λ (x : ℕ). Run x) (runs m n (rw is at a) (rw too at b) (rw (is, too) at e)) ∙ sym too
      go c d (inl (m, is)) (inr o) a b e = absurd (run_first m d ds cs (rw is at a.chunks.0) o (right_other Choice past d o b.allowed.0) (rw is at e))
      go c d (inr o) (inl (n, is)) a b e = absurd (run_first n c cs ds (rw is at b.chunks.0) o (right_other Choice past c o a.allowed.0) (rw is at (sym e)))
      go c d (inr o) (inr p) a b e =
          let s : pixel_after past c ≡ pixel_after past d = same_first _ _ _ _ (sym (given_other past c cs o) ∙ e ∙ given_other past d ds p) in
          let x = (right_other Choice past c o a.allowed.0).is_chosen in
          let y = (right_other Choice past d p b.allowed.0).is_chosen in
          unique past (pixel_after past d) c d a.chunks.0 b.chunks.0 (rw s at x) y

  -- two lists that give the same are the same
  same_given : (past : Past) (cs ds : List Chunk) → Next Choice past cs → Next Choice past ds → given past cs ≡ given past ds → cs ≡ ds
  same_given past [] [] a b e = refl
  same_given past [] (d ∷ ds) a b e = absurd (given_some past d ds b.chunks.0 (sym e))
  same_given past (c ∷ cs) [] a b e = absurd (given_some past c cs a.chunks.0 e)
  same_given past (c ∷ cs) (d ∷ ds) a b e =
      let h : c ≡ d = same_head past c d cs ds a b e in
      let g : given (then_chunk past c) cs ≡ given (then_chunk past c) ds =
      append_cancel_left (replicate (times c) (pixel_after past c)) _ _ (e ∙ ap (λ (x : Chunk). given past (x ∷ ds)) (sym h)) in
      let s : cs ≡ ds = same_given (then_chunk past c) cs ds (record { chunks = a.chunks.1; allowed = a.allowed.1; full = a.full.1 })
      (record { chunks = b.chunks.1; allowed = rw (← h) at b.allowed.1; full = b.full.1 }) g in
      cc

  -- an image has at most one written list, if the choice is unique
  pub unique_by : (image : List RgbaPixel) (cs ds : List Chunk) → WrittenBy Choice image cs → WrittenBy Choice image ds → cs ≡ ds
  unique_by image cs ds w v =
      same_given [] cs ds (record { chunks = w.chunks; allowed = w.allowed; full = w.full }) (record { chunks = v.chunks; allowed = v.allowed; full = v.full })
      (sym (meaning_given cs) ∙ w.means ∙ sym v.means ∙ meaning_given ds)

-- the choice of a fresh pixel's chunk is unique
pub choice_unique : (past : Past) (p : RgbaPixel) (c d : Chunk) → IsChunk c → IsChunk d → IsChoice past p c → IsChoice past p d → c ≡ d
choice_unique past p c d ic id f g =
    elim (cases_pixel (noted past (hash p)) p) as (λ _. c ≡ d) [
      | inl is ↦ f.place is ∙ sym (g.place is)
      | inr differs ↦ first_unique past p c d ic id (f.spelled differs) (g.spelled differs)
    ]
