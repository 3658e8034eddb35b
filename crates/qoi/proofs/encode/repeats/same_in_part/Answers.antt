-- A comparison's bits, of which there are sixteen.
use Rattle.std.proofs.Common.{◌≡◌, ◌∙◌, ap, sym, length, take, ◌*◌, ◌^◌, ◌<◌, ℕ, List, eqb, arith, subst}
use Rattle.std.proofs.lemmas.List.{length-take-le, length-drop}
use Rattle.std.proofs.lemmas.Simd.{mask_l-lt, length-zip2}
use lib.Lanes.{zip2}
use Rattle.qoi.proofs.format.SameBits.{same_bits, compared_bits}
use Rattle.qoi.proofs.encode.repeats.same_in_part.Goals as goal

-- bits of sixteen bytes
few : (xs ys : List ℕ) → length xs ≡ 16 → length ys ≡ 16 → same_bits xs ys < 2 ^ 16
few xs ys e f = subst (λ k. same_bits xs ys < 2 ^ k) (length-zip2 eqb xs ys (e ∙ sym f) ∙ e) (mask_l-lt (zip2 eqb xs ys))

pub returns : goal.returns
returns g c =
    let part = c.skip-part in
    let size = length-take-le 16 part.result.now
    (omega (arith, ap length part.ensures, length-drop (16 * g.row.PART) c.args.raw.bytes.now, c.args.raw.channels, c.requires.part, c.requires.long)) in
    let bits = compared_bits (take 16 part.result.now) c.repeated.result (size ∙ sym c.repeated.ensures.sixteen) (omega (arith, size)) in
    record {
      few = subst (λ b. b < 2 ^ 16) (sym bits) (few (take 16 part.result.now) c.repeated.result size c.repeated.ensures.sixteen);
      bits = bits ∙ (λ i. same_bits (take 16 (part.ensures i)) (c.repeated.ensures.bytes i));
    }
