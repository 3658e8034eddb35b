-- Alpha and its share of the index position are added to what is read.
use Rattle.std.proofs.Common.{◌≡◌, ◌-◌, ◌∙◌, ap, arith, drop, inl, inr, length, slice_index, subst, sym, length-drop}
use Rattle.std.specs.Int.Bits.{bit_and}
use Rattle.std.proofs.lemmas.Bool.{cases_lt}
use Rattle.std.proofs.lemmas.Grind.{get_or_after_one}
use Rattle.std.proofs.lemmas.Nat.{and_mask}
use Rattle.qoi.specs.Qoi.{pixel}
use Rattle.qoi.specs.inner.Hashed.{pixel_of_lanes, IsHashed}
use Rattle.qoi.proofs.format.SamePixels.{same_pixel}
use Rattle.qoi.proofs.format.WholePixels.{take_whole}
use Rattle.qoi.proofs.format.HashedPixels.{after_rgb, after_rgba}
use Rattle.qoi.proofs.decode.hashed.Hashed.after_full.Goals as goal

pub invariant_of-result : goal.invariant_of-result
invariant_of-result g c = elim (cases_lt c.args.b1 255) [
  | inl less ↦ let is : c.args.b1 ≡ 254 = omega (arith, less, c.requires.full) in
      (after_rgb c.self.inside.0 _ c.four_lanes.result _ c.read.inside.0 (c.kept_by.ensures.rgb is) (c.read_by.ensures.rgb is) c.read.invariant
      (ap pixel_of_lanes c.read.view_is ∙ c.of_lanes-read.ensures)).is_hashed
  | inr more ↦ let is : c.args.b1 ≡ 255 = omega (arith, more, c.requires.full) in
      subst IsHashed (sym (after_rgba c.self.inside.0 _ c.read.inside.0 (c.kept_by.ensures.rgba is) c.read.invariant)) c.read.invariant
]

pub returns : goal.returns
returns g c =
    let four = c.four_lanes.result in
    let bytes = c.args.bytes.now in
    let read : pixel_of_lanes four ≡ pixel (slice_index bytes 1) (slice_index bytes 2) (slice_index bytes 3) (slice_index bytes 4) =
    c.four_lanes.ensures.pixel ∙ ap (λ z. pixel (slice_index z 0) (slice_index z 1) (slice_index z 2) (slice_index z 3)) (take_whole (length bytes - 1) (drop 1 bytes) (length-drop 1 bytes))
    ∙ (λ k. pixel (get_or_after_one bytes 0 0 k) (get_or_after_one bytes 1 0 k) (get_or_after_one bytes 2 0 k) (get_or_after_one bytes 3 0 k)) in
    let lanes = ap pixel_of_lanes c.read.view_is ∙ c.of_lanes-read.ensures in
    record {
      rgb = λ is.
          (after_rgb c.self.inside.0 _ four _ c.read.inside.0 (c.kept_by.ensures.rgb is) (c.read_by.ensures.rgb is) c.read.invariant lanes).pixel_is
          ∙ same_pixel _ _ (ap (λ p. p.r) read) (ap (λ p. p.g) read) (ap (λ p. p.b) read) (ap (λ s. (pixel_of_lanes s).a) c.self.view_is);
      rgba = λ is. ap pixel_of_lanes (after_rgba c.self.inside.0 _ c.read.inside.0 (c.kept_by.ensures.rgba is) c.read.invariant) ∙ lanes
          ∙ ap pixel_of_lanes (omega (arith, c.four_lanes.type_inv, ap (λ m. bit_and four m) (c.read_by.ensures.rgba is), and_mask four 64)) ∙ read;
    }
