-- Twice eight chunks.
use Rattle.std.proofs.Common.{◌≡◌, ◌≤◌, ℕ, List, [], ◌∷◌, ◌++◌, take, drop, length, replicate, slice_index, append_assoc, arith, ap, ◌∙◌, subst, length-drop}
use Rattle.std.specs.Prelude.{min}
use lib.Lanes.{number_l, zip2}
use Rattle.std.proofs.lemmas.List.{length-take-le}
use Rattle.qoi.specs.inner.block.Storing.{HoldChunks, four_parts, AreEight}
use Rattle.qoi.proofs.encoding.stores.EachChunk.{widened_are, twice_eight}
use Rattle.qoi.proofs.encoding.stores.StoredBlock.{take_few, drop_few, lesser_few, lesser_most}
use Rattle.qoi.proofs.encode.block.storing.each.store_each.Goals as goal

-- the sizes of eight of sixteen lanes, none above five
cut_sizes : (xs ss part : List ℕ) (n : ℕ) → ss ≡ zip2 min xs (replicate 16 5) → length part ≡ 8
    → (((k : ℕ) → slice_index ss k ≤ 5) → (k : ℕ) → slice_index part k ≤ 5) → n ≡ number_l 256 part → (ss : List ℕ) × AreEight 5 ss n
cut_sizes xs ss part n cut long of is =
    (part, record { eight = long; few = of (λ k. omega (arith, ap (λ z. slice_index z k) cut, lesser_most 16 5 xs k)); is = is })

pub store_eight-end-requires-clause-sizes : goal.store_eight-end-requires-clause-sizes
store_eight-end-requires-clause-sizes c =
    let ss : List ℕ = c.lesser.result in
    cut_sizes c.args.size ss (take 8 ss) _ c.lesser.ensures (length-take-le 8 ss (omega arith)) (take_few 8 5 ss)
    (ap (λ z. slice_index z 0) c.halves-sizes.ensures)

pub store_eight-requires-clause-sizes : goal.store_eight-requires-clause-sizes
store_eight-requires-clause-sizes c =
    let ss : List ℕ = c.lesser.result in
    cut_sizes c.args.size ss (drop 8 ss) _ c.lesser.ensures (omega (arith, length-drop 8 ss)) (drop_few 8 5 ss)
    (ap (λ z. slice_index z 1) c.halves-sizes.ensures)

pub returns-clause-written : goal.returns-clause-written
returns-clause-written c = λ few.
    let ss : List ℕ = c.args.size in
    let w = c.args.chunks in
    let alphas : List ℕ = c.args.alpha in
    let m1 : List ℕ = c.with_alphas-one.result in
    let m2 : List ℕ = c.with_alphas-two.result in
    let m3 : List ℕ = c.with_alphas-three.result in
    let m4 : List ℕ = c.with_alphas-four.result in
    let a = widened_are c.args.alpha c.join_lanes-a.result c.fits-alpha.0 c.fits-alpha.1 c.join_lanes-a.ensures in
    let halves : c.halves-sizes.result ≡ number_l 256 (take 8 ss) ∷ number_l 256 (drop 8 ss) ∷ [] =
    c.halves-sizes.ensures ∙ ap (λ z. number_l 256 (take 8 z) ∷ number_l 256 (drop 8 z) ∷ []) (c.lesser.ensures ∙ lesser_few 16 5 ss c.fits-size.0 few) in
    let first = c.store_eight-end.ensures.written (take 8 ss)
    (record { eight = length-take-le 8 ss (omega arith); few = take_few 8 5 ss few; is = ap (λ z. slice_index z 0) halves }) in
    let second = c.store_eight.ensures.written (drop 8 ss)
    (record { eight = omega (arith, length-drop 8 ss); few = drop_few 8 5 ss few; is = ap (λ z. slice_index z 1) halves }) in
    let low = (four_parts (take 8 ss) 0 m1 ++ four_parts (take 8 ss) 4 m2) in
    let high = (four_parts (drop 8 ss) 0 m3 ++ four_parts (drop 8 ss) 4 m4) in
    let front = take c.args.at c.args.out.now in
    second ∙ ap (λ z. z ++ high) first ∙ append_assoc front low high
    ∙ ap (λ z. front ++ z) (twice_eight ss alphas w m1 m2 m3 m4 c.fits-size.0 few c.fits-alpha.0 c.fits-alpha.1
    (subst (HoldChunks m1 w.one) a.0 c.with_alphas-one.ensures) (subst (HoldChunks m2 w.two) a.1 c.with_alphas-two.ensures)
    (subst (HoldChunks m3 w.three) a.2 c.with_alphas-three.ensures) (subst (HoldChunks m4 w.four) a.3 c.with_alphas-four.ensures))
