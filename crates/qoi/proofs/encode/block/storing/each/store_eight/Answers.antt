-- Twice four chunks.
use Rattle.std.proofs.Common.{◌≡◌, ℕ, zero, suc, ◌+◌, ◌*◌, ◌<◌, ◌≤◌, List, slice_index, arith, refl, ◌∙◌, take}
use lib.Lanes.{sum_l}
use Rattle.qoi.proofs.encoding.stores.StoredBlock.{first_few}
use Rattle.qoi.proofs.encoding.stores.StoredParts.{two_fours}
use Rattle.qoi.proofs.encode.block.storing.each.store_eight.Goals as goal

-- the end of the chunk after k others, from what `ends` and `after` ensure
end_few : (ss : List ℕ) (k e r : ℕ) → ((k : ℕ) → slice_index ss k ≤ 5) → r ≡ e → e ≡ sum_l (take (k + 1) ss) → r ≤ 5 * (k + 1)
end_few ss k e r few is sum = omega (arith, first_few (k + 1) ss few)

-- what holds of each number below 4
each_of_four : (P : ℕ → Type 0) → P 0 → P 1 → P 2 → P 3 → (k : ℕ) → k < 4 → P k
each_of_four P a b c d zero lt = a
each_of_four P a b c d (suc zero) lt = b
each_of_four P a b c d (suc (suc zero)) lt = c
each_of_four P a b c d (suc (suc (suc zero))) lt = d
each_of_four P a b c d (suc (suc (suc (suc k)))) lt = absurd (omega arith)

pub store_four-requires-clause-few : goal.store_four-requires-clause-few
store_four-requires-clause-few c =
    let s = c.requires.sizes in
    let e0 = end_few s.0 0 _ _ s.1.few c.after.ensures (c.ends-e.ensures s.0 s.1 0 (omega arith)) in
    let e1 = end_few s.0 1 _ _ s.1.few c.after-2.ensures (c.ends-e.ensures s.0 s.1 1 (omega arith)) in
    let e2 = end_few s.0 2 _ _ s.1.few c.after-3.ensures (c.ends-e.ensures s.0 s.1 2 (omega arith)) in
    each_of_four _ (omega arith) (omega arith) (omega arith) (omega arith)

pub store_four-requires-2-clause-few : goal.store_four-requires-2-clause-few
store_four-requires-2-clause-few c =
    let s = c.requires.sizes in
    let e3 = end_few s.0 3 _ _ s.1.few c.after-4.ensures (c.ends-e.ensures s.0 s.1 3 (omega arith)) in
    let e4 = end_few s.0 4 _ _ s.1.few c.after-5.ensures (c.ends-e.ensures s.0 s.1 4 (omega arith)) in
    let e5 = end_few s.0 5 _ _ s.1.few c.after-6.ensures (c.ends-e.ensures s.0 s.1 5 (omega arith)) in
    let e6 = end_few s.0 6 _ _ s.1.few c.after-7.ensures (c.ends-e.ensures s.0 s.1 6 (omega arith)) in
    each_of_four _ (omega arith) (omega arith) (omega arith) (omega arith)

pub returns-clause-near : goal.returns-clause-near
returns-clause-near c =
    let s = c.requires.sizes in
    let e7 = end_few s.0 7 _ _ s.1.few c.after-8.ensures (c.ends-e.ensures s.0 s.1 7 (omega arith)) in
    (omega arith, omega arith)

pub returns-clause-written : goal.returns-clause-written
returns-clause-written c = λ ss s.
    let e0 = c.after.ensures ∙ c.ends-e.ensures ss s 0 (omega arith) in
    let e1 = c.after-2.ensures ∙ c.ends-e.ensures ss s 1 (omega arith) in
    let e2 = c.after-3.ensures ∙ c.ends-e.ensures ss s 2 (omega arith) in
    let e3 = c.after-4.ensures ∙ c.ends-e.ensures ss s 3 (omega arith) in
    let e4 = c.after-5.ensures ∙ c.ends-e.ensures ss s 4 (omega arith) in
    let e5 = c.after-6.ensures ∙ c.ends-e.ensures ss s 5 (omega arith) in
    let e6 = c.after-7.ensures ∙ c.ends-e.ensures ss s 6 (omega arith) in
    let e7 = c.after-8.ensures ∙ c.ends-e.ensures ss s 7 (omega arith) in
    two_fours c.args.at c.after-8.result _ _ c.args.out.now c.store_four.new.out c.store_four-2.new.out _ _
    (c.store_four.ensures.written ss 0 s.few (each_of_four _ refl e0 e1 e2))
    (c.store_four-2.ensures.written ss 4 s.few (each_of_four _ e3 e4 e5 e6)) e7
