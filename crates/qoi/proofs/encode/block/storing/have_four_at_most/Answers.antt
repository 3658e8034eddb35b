-- No lane is 5.
use Rattle.std.proofs.Common.{◌≡◌, ◌≢◌, ℕ, zero, suc, Bool, true, false, ◌==◌, List, [], ◌∷◌, map, slice_index, refl, sym, ap, ◌∙◌, arith}
use Rattle.std.specs.Prelude.{not}
use Rattle.std.proofs.lemmas.Bool.{true≢false, and_parts}
use Rattle.std.proofs.lemmas.List.{length-map}
use Rattle.qoi.specs.inner.block.Lanes.{mask}
use Rattle.std.specs.List.{list_all}
use Rattle.qoi.proofs.encoding.lanes.Lanewise.{not_8}
use Rattle.qoi.proofs.encode.block.storing.have_four_at_most.Goals as goal

-- none of them is 5
none_five : (xs : List ℕ) → list_all (λ b. b) (map (λ n. not (n == 5)) xs) ≡ true → (k : ℕ) → slice_index xs k ≢ 5
none_five [] all k e = absurd (omega (arith, e))
none_five (x ∷ xs) all zero e = absurd (true≢false (sym (and_parts (not (x == 5)) _ all).0 ∙ ap (λ n. not (n == 5)) e))
none_five (x ∷ xs) all (suc k) e = none_five xs (and_parts (not (x == 5)) _ all).1 k e

-- the other mask
other : (b : Bool) → not_8 (mask b) ≡ mask (not b)
other true = refl
other false = refl

-- in each lane
others : (xs : List ℕ) → map not_8 (map (λ n. mask (n == 5)) xs) ≡ map mask (map (λ n. not (n == 5)) xs)
others [] = refl
others (x ∷ xs) = λ i. other (x == 5) i ∷ others xs i

pub returns-else-this-eq3 : goal.returns-else-this-eq3
returns-else-this-eq3 g c = λ is few.
    let size = c.args.size in
    none_five size (sym (c.all_set.ensures (map (λ n. not (n == 5)) size) (length-map size (λ n. not (n == 5)) ∙ c.fits-size.0)
    (ap (map not_8) c.where_is.ensures ∙ others size)) ∙ is)
