-- Every number is 0, that of transparent black.
use Rattle.std.proofs.Common.{ℕ, arith, refl, sym, ap, subst, ◌∙◌}
use Rattle.std.proofs.lemmas.List.{get_or-replicate, length-replicate}
use Rattle.qoi.specs.inner.Hashed.{pixel_of_lanes, IsHashed}
use Rattle.qoi.proofs.format.HashedPixels.{blank_is}
use Rattle.qoi.proofs.decode.table.SizedTerms+64.new_small.Goals as goal

pub invariant_of-result : goal.invariant_of-result
invariant_of-result c = (
  refl,
  omega arith,
  record { places = λ i l. subst IsHashed (sym (get_or-replicate 64 i 0 0 l)) blank_is.1; others = λ i low l. absurd (omega (arith, low, l, length-replicate {A = ℕ} 64 0)) },
)

pub returns : goal.returns
returns c i l = ap pixel_of_lanes (get_or-replicate 64 i 0 0 l) ∙ blank_is.0
