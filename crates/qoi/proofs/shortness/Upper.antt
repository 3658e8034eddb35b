-- The written list has at most the bytes that the pixels cost and those of the slack.
use Rattle.std.proofs.Common.{◌≡◌, ◌≢◌, ℕ, zero, suc, ◌+◌, ◌%◌, ◌<◌, ◌≤◌, false, List, [], ◌∷◌, ◌++◌, length, reverse, replicate, refl, sym, ap, ◌∙◌, arith}
use Rattle.std.proofs.lemmas.Bool.{false_from_ne_true}
use Rattle.std.proofs.lemmas.List.{length-append, reverse-reverse}
use Rattle.qoi.specs.Qoi.{Chunk, Diff, Luma, Run, Rgb, Rgba, RgbaPixel, Past, previous, seen, hash, IsChunk, AreChunks, pixel_after, bytes_of, chunk_bytes, then_chunk, then_chunks, Each}
use Rattle.qoi.specs.Raw.{HasChannels}
use Rattle.qoi.specs.Written.{rank, noted, IsFirst, IsChoice, GivesFresh, IsAllowedAfter, IsFullBefore, RunsFollowFull, WrittenBy, Written}
use Rattle.qoi.specs.Shortest.{some_diff, some_luma, least, trailing_repeats, total_cost, floor, slack}
use Rattle.qoi.proofs.format.SamePixels.{cases_pixel, same_pixel}
use Rattle.qoi.specs.Styles.{is_run}
use Rattle.qoi.proofs.format.ChunkSteps.{times_other, right_other, then_other}
use Rattle.qoi.proofs.shortness.Costs.{some_diff-true, some_luma-true, bounds, cost_fresh, cost_run, repeats_run, repeats_fresh}
use Rattle.qoi.proofs.shortness.SlackSteps.{slack_at, slack_is, slack_more, slack_grows}
use Rattle.qoi.proofs.encoding.lists.WrittenExists.{choice_is}
use Rattle.qoi.proofs.encoding.lists.WrittenShape.{channels_all, channels_before, chunk_fits}

-- if the first chunk is no Diff, no Diff gives the pixel
no_diff : (past : Past) (p : RgbaPixel) (c : Chunk) → IsFirst past p c → 1 < rank c → some_diff (previous past) p ≡ false
no_diff past p c f h = false_from_ne_true _ (λ t.
    let w = some_diff-true (previous past) p t in
    let l = f.first (Diff w.0) w.1 (omega arith) w.2 in
    omega arith)

-- if it is no Luma either, no Luma does
no_luma : (past : Past) (p : RgbaPixel) (c : Chunk) → IsFirst past p c → 2 < rank c → some_luma (previous past) p ≡ false
no_luma past p c f h = false_from_ne_true _ (λ t.
    let w = some_luma-true (previous past) p t in
    let l = f.first (Luma w.0 w.1) w.2 (omega arith) w.3 in
    omega arith)

-- if it is an Rgba, alpha changes
no_rgb : (past : Past) (p : RgbaPixel) (r g b a : ℕ) → IsChunk (Rgba r g b a) → IsFirst past p (Rgba r g b a) → p.a ≢ (previous past).a
no_rgb past p r g b a i f stays =
    let l = f.first (Rgb r g b) (i.0, i.1, i.2) (omega arith)
    (same_pixel _ p (ap (λ x. x.r) f.gives) (ap (λ x. x.g) f.gives) (ap (λ x. x.b) f.gives) (sym stays)) in
    omega arith

-- the first chunk that spells a pixel out is no longer than the least, if the pixel isn't seen
pub first_least : (past : Past) (p : RgbaPixel) (c : Chunk) → IsChunk c → IsFirst past p c → seen past (hash p) ≢ p → length (bytes_of c) ≤ least past p
first_least past p (Diff d) i f n = (bounds past p).low
first_least past p (Luma d e) i f n = (bounds past p).no_diff n (no_diff past p _ f (omega arith))
first_least past p (Rgb r g b) i f n = (bounds past p).no_luma n (no_diff past p _ f (omega arith)) (no_luma past p _ f (omega arith))
first_least past p (Rgba r g b a) i f n = (bounds past p).no_rgb n (no_diff past p _ f (omega arith)) (no_luma past p _ f (omega arith))
    (no_rgb past p r g b a i f)
first_least past p c i f n = let s = f.spells in absurd (omega arith)

-- a fresh pixel's chosen chunk is no longer than the least, but for what the slack grows by
fresh_cost : (channels : ℕ) (past : Past) (c : Chunk) → IsChunk c → HasChannels (then_chunk past c) channels → is_run c ≡ false → GivesFresh IsChoice past c
    → IsAllowedAfter IsChoice past c → length (bytes_of c) + slack_at channels past ≤ least past (pixel_after past c) + slack_at channels (pixel_after past c ∷ past)
fresh_cost channels past c i h o g r =
    let p = pixel_after past c in
    let place : noted past (hash p) ≡ p → length (bytes_of c) ≡ 1 = (λ e. rw (g.is_chosen.place e) refl) in
    let most = chunk_fits IsChoice choice_is channels past c i h r in
    let least_is : noted past (hash p) ≢ p → seen past (hash p) ≢ p → length (bytes_of c) ≤ least past p
    = (λ n u. first_least past p c i (g.is_chosen.spelled n) u) in
    grind (
      arith,
      place,
      most,
      least_is,
      times_other c o,
      (bounds past p).low,
      slack_more channels past p,
      slack_grows channels past p g.is_fresh,
      cases_pixel (noted past (hash p)) p,
      cases_pixel (seen past (hash p)) p,
    )

-- a run begins at a multiple of 62 repeats
abbrev Aligned : Past → List Chunk → Type 0
Aligned past (Run n ∷ cs) = trailing_repeats past % 62 ≡ 0
Aligned past _ = Unit {0}

module _ (shortest : Past → RgbaPixel → ℕ) (Choice : Past → RgbaPixel → Chunk → Type 0) (extra : Past → ℕ)
    (extra_more : (past : Past) (p : RgbaPixel) → extra past ≤ extra (p ∷ past)) (channels : ℕ)
    (fresh_fits : (past : Past) (c : Chunk) → IsChunk c → HasChannels (then_chunk past c) channels → is_run c ≡ false → GivesFresh Choice past c
    → IsAllowedAfter Choice past c → length (bytes_of c) + extra past ≤ shortest past (pixel_after past c) + extra (pixel_after past c ∷ past)) where
  -- what is extra never falls in a run
  extra_run : (past : Past) (p : RgbaPixel) (k : ℕ) → extra past ≤ extra (replicate k p ++ past)
  extra_run past p zero = omega arith
  extra_run past p (suc k) = omega (arith, extra_run past p k, extra_more (replicate k p ++ past) p)

  -- a run costs its byte
  run_fits : (past : Past) (n : ℕ) → 0 < n → trailing_repeats past % 62 ≡ 0
      → 1 + total_cost shortest past + extra past ≤ total_cost shortest (then_chunk past (Run n)) + extra (then_chunk past (Run n))
  run_fits past n h a = omega (arith, h, a, cost_run shortest past n, extra_run past (previous past) n)

  -- any other chunk costs no more than its pixel and what is extra
  other_fits : (past : Past) (c : Chunk) → IsChunk c → HasChannels (then_chunk past c) channels → is_run c ≡ false → IsAllowedAfter Choice past c
      → length (bytes_of c) + total_cost shortest past + extra past ≤ total_cost shortest (then_chunk past c) + extra (then_chunk past c)
  other_fits past c i h o r =
      let g = right_other Choice past c o r in
      let f = fresh_fits past c i h o g r in
      let e = cost_fresh shortest past (pixel_after past c) g.is_fresh in
      rw (then_other past c o) (omega arith)

  -- a chunk costs no more than its pixels and what is extra
  one_fits : (past : Past) (c : Chunk) (cs : List Chunk) → IsChunk c → HasChannels (then_chunk past c) channels → IsAllowedAfter Choice past c
      → Aligned past (c ∷ cs) → length (bytes_of c) + total_cost shortest past + extra past ≤ total_cost shortest (then_chunk past c) + extra
      (then_chunk past c)
  one_fits past (Run n) cs i h r a = run_fits past n i.0 a
  one_fits past c cs i h r a = other_fits past c i h refl r

  -- the next run begins at a multiple of 62 repeats
  aligned_next : (past : Past) (c : Chunk) (cs : List Chunk) → IsAllowedAfter Choice past c → IsFullBefore c cs → Aligned past (c ∷ cs)
      → Aligned (then_chunk past c) cs
  aligned_next past (Run m) (Run n ∷ cs) r f a = let e = repeats_run past m in omega arith
  aligned_next past c (Run n ∷ cs) r f a = let e = repeats_fresh past _ r.is_fresh in omega arith
  aligned_next past c _ r f a = tt

  -- chunks cost no more than their pixels and what is extra
  all_fit : (past : Past) (cs : List Chunk) → AreChunks cs → HasChannels (then_chunks past cs) channels → Each (IsAllowedAfter Choice) past cs
      → RunsFollowFull cs → Aligned past cs
      → length (chunk_bytes cs) + total_cost shortest past + extra past ≤ total_cost shortest (then_chunks past cs) + extra (then_chunks past cs)
  all_fit past [] i h r f a = omega arith
  all_fit past (c ∷ cs) i h r f a =
      let one = one_fits past c cs i.0 (channels_before channels (then_chunk past c) cs h) r.0 a in
      let more = all_fit (then_chunk past c) cs i.1 h r.1 f.1 (aligned_next past c cs r.0 f.0 a) in
      let t : length (chunk_bytes (c ∷ cs)) ≡ length (bytes_of c) + length (chunk_bytes cs) = length-append (bytes_of c) (chunk_bytes cs) in
      omega arith

  -- so the written list costs no more than the pixels of its image and what is extra
  pub upper_by : (image : List RgbaPixel) (cs : List Chunk) → HasChannels image channels → WrittenBy Choice image cs
      → length (chunk_bytes cs) ≤ total_cost shortest (reverse image) + extra (reverse image)
  upper_by image cs h w =
      let e : then_chunks [] cs ≡ reverse image = sym (reverse-reverse (then_chunks [] cs)) ∙ ap reverse w.means in
      let u = all_fit [] cs w.chunks (channels_all channels image cs w.means h) w.allowed w.full (at_start cs) in
      let v : length (chunk_bytes cs) + 0 + extra [] ≤ total_cost shortest (reverse image) + extra (reverse image) = rw e at u in
      omega arith
    where
      at_start : (cs : List Chunk) → Aligned [] cs
      at_start [] = tt
      at_start (Run n ∷ cs) = refl
      at_start _ = tt

-- the written list has at most the bytes of the floor and the slack
pub upper : (image : List RgbaPixel) (channels : ℕ) (cs : List Chunk) → HasChannels image channels → Written image cs
    → length (chunk_bytes cs) ≤ floor image + slack image channels
upper image channels cs h w =
    let u = upper_by least IsChoice (slack_at channels) (slack_more channels) channels (fresh_cost channels) image cs h w in
    let s = slack_is image channels in
    omega arith
