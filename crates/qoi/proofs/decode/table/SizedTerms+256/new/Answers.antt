-- The numbers of index positions are 0, those of transparent black.
use Rattle.std.proofs.Common.{◌≡◌, arith, sym, ap, subst, ◌∙◌, length}
use Rattle.std.specs.List.{slice_index}
use Rattle.qoi.specs.inner.Hashed.{pixel_of_lanes, IsHashed, IsAdded}
use Rattle.qoi.proofs.format.HashedPixels.{blank_is}
use Rattle.qoi.proofs.decode.table.SizedTerms+256.new.Goals as goal

pub invariant_of-result : goal.invariant_of-result
invariant_of-result c =
    let same : c.copy_from_slice.new.self ≡ c.all_added.result.now = c.copy_from_slice.ensures.after in
    let size : length c.copy_from_slice.new.self ≡ 256 = ap length same ∙ c.all_added.ensures.size in (
      size,
      omega arith,
      record {
        places = λ i l. subst IsHashed (sym (ap (λ z. slice_index z i) same ∙ c.all_added.ensures.places i l)) blank_is.1;
        others = λ i low l. subst (λ z. IsAdded i (slice_index z i)) (sym same) (c.all_added.ensures.others i low (omega (arith, l, size)));
      },
    )

pub returns : goal.returns
returns c i l = ap (λ z. pixel_of_lanes (slice_index z i)) c.copy_from_slice.ensures.after ∙ ap pixel_of_lanes (c.all_added.ensures.places i l) ∙ blank_is.0
