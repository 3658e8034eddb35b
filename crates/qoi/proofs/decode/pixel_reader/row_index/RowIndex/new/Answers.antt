-- The image is read whole, and the points are those of its rows.
use Rattle.std.proofs.Common.{◌≡◌, ◌<◌, ◌*◌, ◌+◌, ◌∙◌, ℕ, [], ◌∷◌, Ok, sym, ap, subst, inl, inr, length, length-append, slice_index_or, arith}
use Rattle.qoi.specs.Qoi.{Header, IsValid, channels_number, pixel_count, header_of}
use Rattle.qoi.specs.pieces.PixelReader.{unread_bytes}
use Rattle.qoi.specs.pieces.RowIndex.{PointState, StandsAt, ArePoints, IsPointAt, HasPoints}
use Rattle.std.proofs.lemmas.List.Elements.{All-nil, All-push}
use Rattle.qoi.proofs.decoding.Promised.{has_refused_file}
use Rattle.qoi.proofs.decoding.Points.{point_stands}
use Rattle.qoi.proofs.decoding.RowIndexes.{all_left, row_left, below_point, fewer_points, first_left, image_size, one_row_more, point_at, still_going, row_index, row_index_then, reads_start, stands_whole}
use Rattle.qoi.proofs.decoding.Refusals.{handed_on}
use Rattle.qoi.proofs.format.HeaderBytes.{head_from_header_of}
use Rattle.qoi.proofs.decode.pixel_reader.row_index.RowIndex.new.Goals.{After-header}
use Rattle.qoi.proofs.decode.pixel_reader.row_index.RowIndex.new.Goals as goal

-- the header of the decoder is that of the file
is_header : (c : After-header) → header_of c.args.file.now ≡ Ok c.header.result.now
is_header c = c.in_ok-decoder.ensures.accepted.header ∙ ap Ok (sym c.header.ensures)

-- and valid
is_valid : (c : After-header) → IsValid c.header.result.now
is_valid c = (head_from_header_of c.args.file.now c.header.result.now (λ i. omega (arith, c.type_inv.file i)) (is_header c)).1

pub loop-k-init : goal.loop-k-init
unfolding ArePoints
loop-k-init c =
    let h = c.header.result.now in
    let d = c.in_ok-decoder.decoder in
    let made = c.in_ok-decoder.ensures.accepted in
    let none = ap length c.in_ok-points.ensures.items in
    let all = first_left d c.into_pixels-reader.result c.into_pixels-reader.ensures.start ∙ ap (λ k. pixel_count d.header * channels_number k) made.channels
    ∙ ap (λ (z : Header). pixel_count z * channels_number z.channels) (sym c.header.ensures) in
    record {
      reads = reads_start h d c.args.file.now c.into_pixels-reader.result made (is_header (goal.at.loop-k-init c).After-header) c.into_pixels-reader.ensures.start;
      are = subst (ArePoints (pixel_count h) c.args.file.now) (sym c.in_ok-points.ensures.items) (All-nil (StandsAt (pixel_count h) c.args.file.now));
      count = omega (arith, none);
      rows = λ k m within. absurd (omega (arith, within, none));
      left = all_left h c.max-apart.result _ all;
    }

pub overflow_mul-row : goal.overflow_mul-row
overflow_mul-row c =
    let low = below_point c.header.result.now c.max-apart.result c.loop-k.k (is_valid (goal.at.overflow_mul-row c).After-header) (omega (arith, c.max-apart.ensures)) (omega (arith, c.loop-k-test.true, c.count_points-count.ensures)) in
    omega (arith, low.0, low.1)

pub keep_point-requires-clause-going : goal.keep_point-requires-clause-going
keep_point-requires-clause-going c =
    let h = c.header.result.now in
    still_going h.channels h c.args.file.now c.skip_to.new.reader (c.in_ok-skip_to.ensures.file h.channels h c.args.file.now c.loop-k.invariant.reads)

pub keep_point-requires-clause-some : goal.keep_point-requires-clause-some
unfolding unread_bytes
keep_point-requires-clause-some c =
    let h = c.header.result.now in
    let here = row_left h c.max-apart.result c.loop-k.k _ _ _ c.loop-k.invariant.left c.bytes_from.ensures c.in_ok-skip_to.ensures.left in
    let low = below_point h c.max-apart.result c.loop-k.k (is_valid (goal.at.keep_point-requires-clause-some c).After-header) (omega (arith, c.max-apart.ensures)) (omega (arith, c.loop-k-test.true, c.count_points-count.ensures)) in
    omega (arith, here, low.2)

pub loop-k-preserved : goal.loop-k-preserved
unfolding ArePoints
loop-k-preserved c =
    let h = c.header.result.now in
    let file = c.args.file.now in
    let i = c.loop-k.invariant in
    let apart = c.max-apart.result in
    let points = c.loop-k.points.items in
    let (m, is, items) = c.in_ok-keep_point.ensures.kept in
    let reads = c.in_ok-skip_to.ensures.file h.channels h file i.reads in
    let here = row_left h apart c.loop-k.k _ _ _ i.left c.bytes_from.ensures c.in_ok-skip_to.ensures.left in
    let at : IsPointAt h (apart * (c.loop-k.k + 1)) m = point_at h file (apart * (c.loop-k.k + 1)) c.skip_to.new.reader m is reads here in
    let rows = one_row_more h apart points m i.rows (subst (λ n. IsPointAt h (apart * (n + 1)) m) (sym i.count) at) in
    record {
      reads = reads;
      are = subst (ArePoints (pixel_count h) file) (sym items) (All-push (StandsAt (pixel_count h) file) points m i.are (point_stands h.channels h file _ _ m is reads));
      count = omega (arith, ap length items, length-append points (m ∷ []), i.count);
      rows = subst (λ z. (k : ℕ) (d : PointState) → k < length z → IsPointAt h (apart * (k + 1)) (slice_index_or z k d)) (sym items) rows;
      left = omega (arith, here);
    }

pub invariant_of-result : goal.invariant_of-result
invariant_of-result c = (omega (arith, c.max-apart.ensures), λ k m within. (c.loop-k.invariant.rows k m within).row_is)

pub returns-clause-points : goal.returns-clause-points
returns-clause-points c h is =
    let same : c.header.result.now ≡ h = cc (is_header (goal.at.returns-clause-points c).After-header, is) in
    let has : HasPoints c.header.result.now c.max-apart.result c.loop-k.points.items = record {
      some = omega (arith, c.max-apart.ensures);
      count = omega (arith, c.loop-k.invariant.count, c.loop-k-test.false, c.loop-k.auto.k-end, c.count_points-count.ensures);
      are = c.loop-k.invariant.rows;
    } in
    subst (λ n. HasPoints h n c.loop-k.points.items) c.max-apart.ensures (subst (λ (z : Header). HasPoints z c.max-apart.result c.loop-k.points.items) same has)

pub returns-clause-index : goal.returns-clause-index
returns-clause-index c =
    let h = c.header.result.now in
    let is = is_header (goal.at.returns-clause-index c).After-header in
    let read = c.in_ok-skip_to-2.ensures.file h.channels h c.args.file.now c.loop-k.invariant.reads in
    row_index h _ c.args.file.now c.loop-k.points.items is c.loop-k.invariant.are (returns-clause-points c h is)
    (stands_whole h.channels h c.args.file.now c.skip_to-2.new.reader read (omega (arith, c.in_ok-skip_to-2.ensures.left)))

pub returns-clause-index_then : goal.returns-clause-index_then
returns-clause-index_then c more = row_index_then c.args.file.now more c.loop-k.points.items (returns-clause-index c)

pub returns-clause-size : goal.returns-clause-size
returns-clause-size c h is = image_size h c.args.file.now _ is (returns-clause-index c)

pub returns-clause-few : goal.returns-clause-few
returns-clause-few c h is =
    let has = returns-clause-points c h is in
    omega (arith, has.count, fewer_points h _ has.some)

pub returns-in_err-decoder-clause-refused : goal.returns-in_err-decoder-clause-refused
returns-in_err-decoder-clause-refused c = handed_on _ _ _ c.from_residual.ensures.1 (inl (has_refused_file _ _ (inl c.in_err-decoder.ensures.refused)))

pub returns-in_err-keep_point-clause-refused : goal.returns-in_err-keep_point-clause-refused
returns-in_err-keep_point-clause-refused c =
    handed_on _ _ _ c.from_residual-in_err-keep_point.ensures.1
    (inr (c.in_err-keep_point.ensures.refused, c.header.result.now, is_header (goal.at.returns-in_err-keep_point-clause-refused c).After-header))
