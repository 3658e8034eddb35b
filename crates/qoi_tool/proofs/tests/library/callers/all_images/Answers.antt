-- Each turn takes a file from the front of the rest, and puts its image after the others.
use Rattle.std.proofs.Common.{◌≡◌, ◌<◌, ◌≤◌, ℕ, List, [], ◌∷◌, Vec, Global, length, map, drop, sym, ◌∙◌, subst, rules, append-nil}
use Rattle.std.proofs.lemmas.List.{drop_all}
use Rattle.qoi.specs.Qoi.{header_size}
use Rattle.qoi_tool.specs.Files.{AreFiles}
use Rattle.qoi_tool.proofs.Files.{rest_is_shorter, map_of_more, images_are_one}
use Rattle.qoi_tool.proofs.tests.library.callers.all_images.Goals as goal

pub loop-rest-smaller : goal.loop-rest-smaller
loop-rest-smaller c =
    let bytes = c.loop-rest.rest.now in
    let h = c.in_ok-decoder.decoder.header in
    let raw = c.in_ok-decode_to_vec.field-0.items in
    let read = c.in_ok-decode_to_vec.ensures.decoded.file bytes (drop header_size bytes) c.in_ok-decoder.ensures.accepted.made c.in_ok-decoder.ensures.accepted.after in
    let stands = read.1 in
    let left : c.decode_to_vec.new.self.reader ≡ read.0 = cc in
    let next : c.into_data-rest.result.now ≡ read.0 = c.into_data-rest.ensures ∙ left in
    subst (λ (z : List ℕ). length z < length bytes) (sym next) (rest_is_shorter bytes h read.0 raw read.2)

pub loop-rest-preserved : goal.loop-rest-preserved
loop-rest-preserved c = λ more files.
    let bytes = c.loop-rest.rest.now in
    let h = c.in_ok-decoder.decoder.header in
    let image = c.in_ok-decode_to_vec.field-0 in
    let read = c.in_ok-decode_to_vec.ensures.decoded.file bytes (drop header_size bytes) c.in_ok-decoder.ensures.accepted.made c.in_ok-decoder.ensures.accepted.after in
    let stands = read.1 in
    let left : c.decode_to_vec.new.self.reader ≡ read.0 = cc in
    let next : c.into_data-rest.result.now ≡ read.0 = c.into_data-rest.ensures ∙ left in
    subst (AreFiles c.args.bytes.now)
    (sym (map_of_more (λ (v : Vec ℕ Global). v.items) c.loop-rest.images.items c.push.new.self.items image more c.in_ok-push.ensures.items))
    (c.loop-rest.invariant (image.items ∷ more) (h, read.0, read.2, subst (λ (z : List ℕ). AreFiles z more) next files))

pub returns-clause-files : goal.returns-clause-files
returns-clause-files c =
    let short : length c.loop-rest.rest.now ≤ 0 = search rules in
    subst (AreFiles c.args.bytes.now) (append-nil (map (λ (v : Vec ℕ Global). v.items) c.loop-rest.images.items))
    (c.loop-rest.invariant [] (drop_all 0 c.loop-rest.rest.now short))

pub returns-clause-only : goal.returns-clause-only
returns-clause-only c all files =
    images_are_one c.args.bytes.now (map (λ (v : Vec ℕ Global). v.items) c.loop-rest.images.items) all (returns-clause-files c) files
