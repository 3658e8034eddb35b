-- The number is a sum of what is kept, what the second byte adds, and what the table says.
use Rattle.std.proofs.Common.{ℕ, ◌+◌, ◌%◌, ◌^◌, inl, inr, arith, subst, ap, ◌∙◌}
use Rattle.std.specs.Int.Bits.{bit_and, and_zero_r}
use Rattle.std.proofs.lemmas.Nat.{and_mask}
use Rattle.qoi.specs.inner.Hashed.{pixel_of_lanes, IsHashed, IsAfterShort}
use Rattle.qoi.proofs.format.HashedPixels.{short_sum}
use Rattle.qoi.proofs.decode.hashed.Hashed.after_short.Given.{Over}
use Rattle.qoi.proofs.decode.hashed.Hashed.after_short.Goals.{After-at}
use Rattle.qoi.proofs.decode.hashed.Hashed.after_short.Goals as goal

-- the number
abbrev total : (g : Over) → After-at g → ℕ
total g c = ((bit_and c.self.inside.0 c.kept_by.result + bit_and c.second_added.result c.read_by.result) % 2 ^ 64 + c.at.result) % 2 ^ 64

-- its pixel
sum : (g : Over) (c : After-at g) → IsAfterShort c.args.b1 c.args.b2 c.args.table.now (pixel_of_lanes c.self.inside.0) (pixel_of_lanes (total g c)) × IsHashed (total g c)
sum g c =
    let added = c.second_added.result in
    short_sum {own = bit_and c.self.inside.0 c.kept_by.result} {more = bit_and added c.read_by.result} (record {
      none = λ l. ap (λ m. bit_and c.self.inside.0 m) (c.kept_by.ensures.place l) ∙ and_zero_r c.self.inside.0;
      kept = λ l. ap (λ m. bit_and c.self.inside.0 m) (c.kept_by.ensures.other l c.requires);
      no_more = λ other. elim other [
        | inl l ↦ ap (λ m. bit_and added m) (c.read_by.ensures.before l) ∙ and_zero_r added
        | inr l ↦ ap (λ m. bit_and added m) (c.read_by.ensures.run l c.requires) ∙ and_zero_r added
      ];
      luma = λ l h. (c.ranges.b2.fits, ap (λ m. bit_and added m) (c.read_by.ensures.luma l h) ∙ omega (arith, and_mask added 64, c.second_added.type_inv) ∙ c.second_added.ensures);
      hashed = c.at.ensures.hashed;
      place = c.at.ensures.place;
      added = c.at.ensures.other;
    }) (omega arith) c.self.invariant c.at.type_inv (omega arith)

pub invariant_of-result : goal.invariant_of-result
invariant_of-result g c = (sum g c).1

pub returns : goal.returns
returns g c = subst (λ s. IsAfterShort c.args.b1 c.args.b2 c.args.table.now (pixel_of_lanes s) (pixel_of_lanes (total g c))) c.self.view_is (sum g c).0
