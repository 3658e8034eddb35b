-- Four times four chunks.
use Rattle.std.proofs.Common.{◌≡◌, ◌≤◌, ℕ, List, [], ◌∷◌, ◌++◌, take, drop, length, replicate, slice_index, arith, ap, ◌∙◌, length-drop}
use Rattle.std.specs.Prelude.{min}
use Rattle.std.proofs.lemmas.Simd.{length-zip2}
use lib.Lanes.{number_l}
use Rattle.std.proofs.lemmas.List.{length-take-le}
use Rattle.qoi.specs.inner.block.Storing.{close_bytes}
use Rattle.qoi.proofs.encoding.stores.FourChunks.{codes_of, sixteen_close}
use Rattle.qoi.proofs.encoding.stores.StoredParts.{four_stored}
use Rattle.qoi.proofs.encoding.stores.StoredBlock.{take_few, drop_few, lesser_most}
use Rattle.qoi.proofs.encode.block.storing.shuffled.store_shuffled.Goals as goal

pub returns-clause-written : goal.returns-clause-written
returns-clause-written c = λ alphas have.
    let ss : List ℕ = c.args.size in
    let cs : List ℕ = codes_of ss in
    let long : length cs ≡ 16 = length-zip2 min ss (replicate 16 3) c.fits-size.0 ∙ c.fits-size.0 in
    let most : (k : ℕ) → slice_index cs k ≤ 3 = lesser_most 16 3 ss in
    let numbers = c.halves-codes.ensures ∙ ap (λ z. number_l 256 (take 8 z) ∷ number_l 256 (drop 8 z) ∷ []) c.lesser.ensures in
    let first = c.join-first.ensures (take 8 cs) (record {
      eight = length-take-le 8 cs (omega arith);
      few = take_few 8 3 cs most;
      is = ap (λ z. slice_index z 0) numbers;
    }) in
    let second = c.join-second.ensures (drop 8 cs) (record {
      eight = omega (arith, length-drop 8 cs);
      few = drop_few 8 3 cs most;
      is = ap (λ z. slice_index z 1) numbers;
    }) in
    let w = c.args.chunks in
    four_stored c.args.at c.store_four_shuffled-end.result c.store_four_shuffled-end-2.result c.store_four_shuffled-end-3.result c.store_four_shuffled.result
    c.args.out.now c.store_four_shuffled-end.new.out c.store_four_shuffled-end-2.new.out c.store_four_shuffled-end-3.new.out c.store_four_shuffled.new.out _ _ _ _
    c.store_four_shuffled-end.ensures.written c.store_four_shuffled-end-2.ensures.written c.store_four_shuffled-end-3.ensures.written c.store_four_shuffled.ensures.written
    ∙ ap (λ z. take c.args.at c.args.out.now ++ z)
    ((λ i. close_bytes (slice_index (first i) 0) w.one ++ (close_bytes (slice_index (first i) 1) w.two
    ++ (close_bytes (slice_index (second i) 0) w.three ++ close_bytes (slice_index (second i) 1) w.four)))
    ∙ sixteen_close ss w alphas c.fits-size.0 have)
