-- No regular chunk list of an image has fewer bytes than its pixels cost, and no list at all fewer than
-- the tight one.
use Rattle.std.proofs.Common.{◌≡◌, ◌⊎◌, inl, inr, ℕ, ◌+◌, ◌≤◌, true, false, ◌&&◌, List, [], ◌∷◌, length, reverse, None, is_some, refl, sym, ap, ◌∙◌, append-nil, arith, ◌++◌}
use Rattle.std.proofs.lemmas.Bool.{cond-true, and_from}
use Rattle.qoi.specs.Qoi.{Chunk, Place, Diff, Luma, Run, Rgb, Rgba, RgbaPixel, Past, pixel_eq, blank, previous, seen, hash, IsChunk, AreChunks, pixel_after, bytes_of, chunk_bytes, then_chunk, Each, then_chunks}
use Rattle.qoi.specs.Raw.{HasChannels}
use Rattle.qoi.specs.Regular.{Covers, NamesPixelThere, Regular}
use Rattle.qoi.specs.Shortest.{least, cost, total_cost, floor}
use Rattle.qoi.specs.Written.{GivesFresh, IsAllowedAfter, WrittenBy}
use Rattle.qoi.specs.Styles.{is_run}
use Rattle.qoi.specs.Tight.{is_unseen, least_unseen, IsTightChoice, least0, floor0}
use Rattle.qoi.proofs.format.SamePixels.{cases_pixel, pixel_eq-from, pixel_eq-true}
use Rattle.qoi.proofs.encoding.styles.TightChoice.{unseen_blank, unseen_or, unseen_some, by_tight}
use Rattle.qoi.proofs.shortness.Costs.{bounds, cost_fresh, cost_repeat, some_diff-from, some_luma-from, cost_run}
use Rattle.qoi.proofs.shortness.Upper.{first_least, upper_by}
use Rattle.std.proofs.lemmas.List.{length-append, reverse-append, reverse-reverse}
use Rattle.qoi.proofs.format.ChunkSteps.{length-bytes_of, cases_run, then_other}

-- a chunk other than a run is no shorter than the least of its pixel
pub least_bounds : (past : Past) (c : Chunk) → IsChunk c → NamesPixelThere past c → is_run c ≡ false → least past (pixel_after past c) ≤ length (bytes_of c)
least_bounds past (Place i) k r o = (bounds past (seen past i)).place (ap (seen past) r)
least_bounds past (Diff d) k r o = (bounds past _).diff (some_diff-from (previous past) _ d k refl)
least_bounds past (Luma d e) k r o = (bounds past _).luma (some_luma-from (previous past) _ d e k refl)
least_bounds past (Run n) k r o = absurd (cc)
least_bounds past (Rgb x y z) k r o = (bounds past (pixel_after past (Rgb x y z))).rgb refl
least_bounds past (Rgba x y z w) k r o = (bounds past (pixel_after past (Rgba x y z w))).high

-- the pixels of a beginning cost no more
cost_front : (shortest : Past → RgbaPixel → ℕ) (more past : Past) → total_cost shortest past ≤ total_cost shortest (more ++ past)
cost_front shortest [] past = omega arith
cost_front shortest (p ∷ more) past = let h = cost_front shortest more past in omega arith

module _ (shortest : Past → RgbaPixel → ℕ) (Allowed : Past → Chunk → Type 0)
    (bounds : (past : Past) (c : Chunk) → IsChunk c → Allowed past c → is_run c ≡ false → shortest past (pixel_after past c) ≤ length (bytes_of c)) where
  -- a pixel costs no more than a chunk that gives it
  cost_other : (past : Past) (c : Chunk) → IsChunk c → Allowed past c → is_run c ≡ false → cost shortest past (pixel_after past c) ≤ length (bytes_of c)
  cost_other past c k a o = grind (
    arith,
    cost_repeat shortest past (pixel_after past c),
    cost_fresh shortest past (pixel_after past c),
    cases_pixel (pixel_after past c) (previous past),
    bounds past c k a o,
    (length-bytes_of c).0,
  )

  -- the pixels that a chunk gives cost no more than it
  cost_chunk : (past : Past) (c : Chunk) → IsChunk c → Allowed past c → total_cost shortest (then_chunk past c) ≤ total_cost shortest past + length (bytes_of c)
  cost_chunk past c k a = go (cases_run c)
    where
      go : ((n : ℕ) × (c ≡ Run n)) ⊎ (is_run c ≡ false) → total_cost shortest (then_chunk past c) ≤ total_cost shortest past + length (bytes_of c)
      go (inl (n, e)) =
          let i : IsChunk (Run n) = rw e at k in
          let l = i.1 in
          let h = cost_run shortest past n in
          rw e (omega arith)
      go (inr o) = let h = cost_other past c k a o in rw (then_other past c o) (omega arith)

  -- so for chunks
  cost_chunks : (past : Past) (cs : List Chunk) → AreChunks cs → Each Allowed past cs
      → total_cost shortest (then_chunks past cs) ≤ total_cost shortest past + length (chunk_bytes cs)
  cost_chunks past [] k a = omega arith
  cost_chunks past (c ∷ cs) k a =
      omega (arith, cost_chunk past c k.0 a.0, cost_chunks (then_chunk past c) cs k.1 a.1, length-append (bytes_of c) (chunk_bytes cs))

  -- so the pixels of an image cost no more than an allowed chunk list that begins with it
  pub lower_by : (image : List RgbaPixel) (cs : List Chunk) → Covers image cs → Each Allowed [] cs → total_cost shortest (reverse image) ≤ length (chunk_bytes cs)
  lower_by image cs (k, more, b) a =
      let h = cost_chunks [] cs k a in
      let e : then_chunks [] cs ≡ reverse more ++ reverse image = sym (reverse-reverse (then_chunks [] cs)) ∙ ap reverse b ∙ reverse-append image more in
      let f = cost_front shortest (reverse more) (reverse image) in
      let g : total_cost shortest (reverse more ++ reverse image) ≤ 0 + length (chunk_bytes cs) = rw e at h in
      omega arith

-- no regular chunk list that begins with an image has fewer bytes than the image's floor
pub lower : (image : List RgbaPixel) (cs : List Chunk) → Covers image cs → Regular cs → floor image ≤ length (chunk_bytes cs)
lower = lower_by least NamesPixelThere least_bounds

-- a fresh pixel costs at least a byte
least0_low : (past : Past) (p : RgbaPixel) → 1 ≤ least0 past p
unfolding least0
least0_low past p = grind (arith, bounds past p)

-- and no more than in a regular list
least0_high : (past : Past) (p : RgbaPixel) → least0 past p ≤ least past p
unfolding least0
least0_high past p = grind (arith, bounds past p)

-- transparent black costs a byte if a position is unseen
least0_unseen : (past : Past) (p : RgbaPixel) → p ≡ blank → is_some (least_unseen past) ≡ true → least0 past p ≡ 1
unfolding least0
least0_unseen past p b u = cond-true (pixel_eq p blank && is_some (least_unseen past)) 1 (least past p) (and_from _ _ (pixel_eq-from p blank b) u)

-- else a pixel costs its `least`
least0_same : (past : Past) (p : RgbaPixel) → (p ≡ blank → least_unseen past ≡ None) → least0 past p ≡ least past p
unfolding least0
least0_same past p other = grind (arith, other, pixel_eq-true p blank)

-- a chunk other than a run is no shorter than its pixel costs
least0_bounds : (past : Past) (c : Chunk) → IsChunk c → Unit {0} → is_run c ≡ false → least0 past (pixel_after past c) ≤ length (bytes_of c)
least0_bounds past (Place i) k _ o = go (unseen_or past i)
  where
    go : (is_unseen past i ≡ true) ⊎ (hash (seen past i) ≡ i) → least0 past (seen past i) ≤ 1
    go (inl e) = let h = least0_unseen past (seen past i) (unseen_blank past i e) (unseen_some past i k e) in omega arith
    go (inr h) = let a = least0_high past (seen past i) in let b = (bounds past (seen past i)).place (ap (seen past) h) in omega arith
least0_bounds past c k _ o = let a = least0_high past (pixel_after past c) in let b = least_bounds past c k tt o in omega arith

-- each list is allowed
each_allowed : (past : Past) (cs : List Chunk) → Each (λ past c. Unit {0}) past cs
each_allowed past [] = tt
each_allowed past (c ∷ cs) = (tt, each_allowed (then_chunk past c) cs)

-- no chunk list that begins with an image has fewer bytes than its pixels cost
pub lower0 : (image : List RgbaPixel) (cs : List Chunk) → Covers image cs → floor0 image ≤ length (chunk_bytes cs)
lower0 image cs covers = lower_by least0 (λ past c. Unit {0}) least0_bounds image cs covers (each_allowed [] cs)

-- a fresh pixel's chunk is no longer than it costs
tight_cost : (past : Past) (c : Chunk) → IsChunk c → HasChannels (then_chunk past c) 4 → is_run c ≡ false → GivesFresh IsTightChoice past c
    → IsAllowedAfter IsTightChoice past c → length (bytes_of c) + 0 ≤ least0 past (pixel_after past c) + 0
tight_cost past c k h o g r =
    by_tight (λ past p c. IsChunk c → length (bytes_of c) + 0 ≤ least0 past p + 0) past (pixel_after past c) c g.is_chosen
    (λ e _. let l = least0_low past (pixel_after past c) in omega arith)
    (λ i n b e _. let l = least0_low past (pixel_after past c) in omega arith)
    (λ n other f i. let l = first_least past (pixel_after past c) c i f n in let s = least0_same past (pixel_after past c) other in omega arith)
    k

-- so the tight list has just as many bytes
pub tight_exact : (image : List RgbaPixel) (cs : List Chunk) → WrittenBy IsTightChoice image cs → length (chunk_bytes cs) ≡ floor0 image
tight_exact image cs w =
    let u = upper_by least0 IsTightChoice (λ past. 0) (λ past p. omega arith) 4 tight_cost image cs (inl refl) w in
    let l = lower0 image cs (w.chunks, [], w.means ∙ sym (append-nil image)) in
    omega arith

-- if a pixel's shortest chunk is no longer, pixels cost no more
costs_less : (s t : Past → RgbaPixel → ℕ) → ((past : Past) (p : RgbaPixel) → s past p ≤ t past p) → (past : Past) → total_cost s past ≤ total_cost t past
costs_less s t less [] = omega arith
costs_less s t less (p ∷ past) = let more = costs_less s t less past in omega (arith, one)
  where
    one : cost s past p ≤ cost t past p
    one = grind (arith, cost_repeat s past p, cost_repeat t past p, cost_fresh s past p, cost_fresh t past p, cases_pixel p (previous past), less past p)

-- so the floor isn't higher than for regular lists
pub floor0_high : (image : List RgbaPixel) → floor0 image ≤ floor image
floor0_high image = costs_less least0 least least0_high (reverse image)
