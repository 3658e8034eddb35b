-- The pixel's number is put at its index position.
use Rattle.std.proofs.Common.{ℕ, ◌<◌, ◌≤◌, List, length, slice_set, arith, sym, subst, inl, inr, rules, get_or-set_same, get_or-set_other, length-set}
use Rattle.std.proofs.lemmas.Bool.{cases_eq}
use Rattle.qoi.specs.inner.Hashed.{IsHashed, IsAdded, AreTerms}
use Rattle.qoi.proofs.decode.table.SizedTerms.set.Goals as goal

-- the number of a pixel in place of another
put_terms : (numbers : List ℕ) (place x : ℕ) → place < 64 → 64 ≤ length numbers → IsHashed x → AreTerms numbers → AreTerms (slice_set numbers place x)
put_terms numbers place x low size hashed terms = record {
  places = λ i l. elim (cases_eq i place) [
    | inl e ↦ rw e (subst IsHashed (sym (get_or-set_same numbers place x 0 (omega (arith, low, size)))) hashed)
    | inr ne ↦ subst IsHashed (sym (get_or-set_other numbers place i x 0 ne)) (terms.places i l)
  ];
  others = λ i high l. subst (IsAdded i) (sym (get_or-set_other numbers place i x 0 (λ e. absurd (omega (arith, e, high, low)))))
      (terms.others i high (omega (arith, l, length-set numbers place x)));
}

pub invariant_of-self : goal.invariant_of-self
invariant_of-self g c = (
  search rules,
  c.self.invariant.1,
  put_terms c.self.inside.numbers c.args.at c.number.result c.requires (omega (arith, c.self.invariant.0, c.self.invariant.1)) c.number.ensures.hashed c.self.invariant.2,
)
