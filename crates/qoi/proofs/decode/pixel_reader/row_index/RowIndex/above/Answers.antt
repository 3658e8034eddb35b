-- The point is one of the index; and all pixels come after the first row.
use Rattle.std.proofs.Common.{◌≡◌, ◌≤◌, ◌<◌, ◌-◌, ◌*◌, ◌∙◌, Ok, ap, sym, subst, length, slice_index_or, arith}
use Rattle.std.proofs.lemmas.Result.{IfOk-weaker}
use Rattle.qoi.specs.Qoi.{Header, channels_number, pixel_count}
use Rattle.qoi.specs.pieces.RowIndex.{undecoded_pixels}
use Rattle.qoi.proofs.decoding.Points.{goes_on_left, point_resumes, point_within}
use Rattle.qoi.proofs.decoding.RowIndexes.{point_found, enough_left, nearest_found, nearest_none, reads_first, first_left}
use Rattle.qoi.proofs.format.HeaderBytes.{head_from_header_of}
use Rattle.qoi.proofs.decode.pixel_reader.row_index.RowIndex.above.Goals as goal

pub returns-then-pixels_wanted-undecoded_pixels-clause-file : goal.returns-then-pixels_wanted-undecoded_pixels-clause-file
returns-then-pixels_wanted-undecoded_pixels-clause-file c index =
    let same : c.args.self.now ≡ c.self.inside.points.items = cc c.self.view_is in
    let found = point_found _ _ c.self.inside.points.items c.args.self.now (c.loop-i.i - 1) _ same c.requires.0 index
    (omega (arith, c.loop-i.invariant.within, c.loop-i-test.true, ap length same)) c.index-point.ensures in
    IfOk-weaker c.resume.result _ _ (λ q goes. point_resumes _ _ _ _ q goes c.requires.0 found) c.resume.ensures.goes

pub returns-then-pixels_wanted-undecoded_pixels-clause-accepts : goal.returns-then-pixels_wanted-undecoded_pixels-clause-accepts
returns-then-pixels_wanted-undecoded_pixels-clause-accepts c index =
    let same : c.args.self.now ≡ c.self.inside.points.items = cc c.self.view_is in
    let (at, left) = point_within _ _ _ c.requires.0 (point_found _ _ c.self.inside.points.items c.args.self.now (c.loop-i.i - 1) _ same c.requires.0 index
    (omega (arith, c.loop-i.invariant.within, c.loop-i-test.true, ap length same)) c.index-point.ensures) in
    c.resume.ensures.accepts at left

pub returns-then-pixels_wanted-undecoded_pixels-clause-left : goal.returns-then-pixels_wanted-undecoded_pixels-clause-left
returns-then-pixels_wanted-undecoded_pixels-clause-left c =
    let d = c.args.decoder in
    let behind : c.pixels_from-pixels_wanted.result ≡ d.header.width * (d.header.height - c.args.first) =
    c.pixels_from-pixels_wanted.ensures.behind ∙ ap (λ (z : Header). z.width * (z.height - c.args.first)) c.header.ensures in
    enough_left (d.header.width * (d.header.height - c.args.first)) _ (channels_number d.channels) c.resume.result (omega (arith, behind)) (goes_on_left _ _ _ _ _ c.resume.ensures.goes)

pub returns-then-pixels_wanted-undecoded_pixels-clause-nearest : goal.returns-then-pixels_wanted-undecoded_pixels-clause-nearest
returns-then-pixels_wanted-undecoded_pixels-clause-nearest c index =
    let d = c.args.decoder in
    let i = c.loop-i.i - 1 in
    let m = c.index-point.result.now in
    let same : c.args.self.now ≡ c.self.inside.points.items = cc c.self.view_is in
    let valid = (head_from_header_of c.args.file.now d.header (λ i. omega (arith, c.type_inv.file i)) c.requires.0).1 in
    let behind : c.pixels_from-pixels_wanted.result ≡ d.header.width * (d.header.height - c.args.first) =
    c.pixels_from-pixels_wanted.ensures.behind ∙ ap (λ (z : Header). z.width * (z.height - c.args.first)) c.header.ensures in
    nearest_found d.channels d.header c.args.file.now c.args.self.now c.args.first i m c.resume.result c.requires.0 valid index
    (omega (arith, c.loop-i.invariant.within, c.loop-i-test.true)) (c.index-point.ensures ∙ ap (λ z. slice_index_or z i m) (sym same))
    (λ k e less below row. subst (λ n. undecoded_pixels (slice_index_or c.args.self.now k e) < n) behind (c.loop-i.invariant.tried k e (omega (arith, less)) below row))
    (goes_on_left _ _ _ _ _ c.resume.ensures.goes)

pub returns-clause-file : goal.returns-clause-file
returns-clause-file c index = reads_first c.args.decoder c.args.file.now _ c.requires c.into_pixels.ensures.start

pub returns-clause-left : goal.returns-clause-left
returns-clause-left c =
    let d = c.args.decoder in
    let many = c.pixels_from-pixels_wanted.result in
    let behind : many ≡ d.header.width * (d.header.height - c.args.first) =
    c.pixels_from-pixels_wanted.ensures.behind ∙ ap (λ (z : Header). z.width * (z.height - c.args.first)) c.header.ensures in
    let most : many ≤ pixel_count d.header = subst (λ (z : Header). many ≤ pixel_count z) c.header.ensures c.pixels_from-pixels_wanted.ensures.most in
    enough_left (d.header.width * (d.header.height - c.args.first)) _ (channels_number d.channels) (Ok c.into_pixels.result)
    (omega (arith, behind, most)) (first_left d _ c.into_pixels.ensures.start)

pub returns-clause-nearest : goal.returns-clause-nearest
returns-clause-nearest c index =
    let d = c.args.decoder in
    let valid = (head_from_header_of c.args.file.now d.header (λ i. omega (arith, c.type_inv.file i)) c.requires.0).1 in
    let behind : c.pixels_from-pixels_wanted.result ≡ d.header.width * (d.header.height - c.args.first) =
    c.pixels_from-pixels_wanted.ensures.behind ∙ ap (λ (z : Header). z.width * (z.height - c.args.first)) c.header.ensures in
    nearest_none d.channels d.header c.args.file.now c.args.self.now c.args.first c.into_pixels.result c.requires.0 valid index
    (λ k e below row. subst (λ n. undecoded_pixels (slice_index_or c.args.self.now k e) < n) behind (c.loop-i.invariant.tried k e (omega (arith, c.loop-i-test.false)) below row))
