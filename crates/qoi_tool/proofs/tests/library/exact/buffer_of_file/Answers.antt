-- A refusal says that no file stands at the front, or that the buffer is too short.
use Rattle.std.proofs.Common.{◌≡◌, ◌∙◌, Result, Ok, Err, IfOk, IfErr, take, ap, sym, ⊎_elim, arith}
use Rattle.std.proofs.lemmas.Result.{IfOk-weaker, IfErr-weaker}
use Rattle.qoi.specs.Qoi.{header_of}
use Rattle.qoi.specs.Raw.{image_byte_count}
use Rattle.qoi.specs.Images.{file_image}
use Rattle.qoi_tool.proofs.tests.library.exact.buffer_of_file.Goals as goal

-- a result with no error is its value
ok_of : {T E : Type 0} (r : Result T E) (v : T) → IfOk r (λ x. x ≡ v) → IfErr r (λ _. ⊥) → r ≡ Ok v
ok_of (Ok x) v is none = ap (λ y. Ok y) is
ok_of (Err e) v is none = absurd none

pub returns-clause-accepts : goal.returns-clause-accepts
returns-clause-accepts c h cs rest f split room =
    let header = (c.files_are_read.ensures.read h cs c.args.data.now rest f split).0 in
    ok_of c.decode_to_buf.result h
    (IfOk-weaker c.decode_to_buf.result _ _ (λ k d. sym (d.0.decodes.1.only h cs rest f split).0) c.decode_to_buf.ensures.decoded)
    (IfErr-weaker c.decode_to_buf.result _ _ (λ e. ⊎_elim (λ r. r.not_file h cs rest f split)
    (λ (k, found, short). let same : k ≡ h = cc in let fewer = ap image_byte_count same in omega (arith, short.0, fewer, room))) c.decode_to_buf.ensures.refused)

pub returns-clause-followed : goal.returns-clause-followed
returns-clause-followed c style h raw bytes rest f split room =
    let bytes_now = c.args.data.now in
    let header : header_of bytes_now ≡ Ok h = ap header_of split ∙ f.read_back.header_then rest in
    let image : file_image bytes_now ≡ raw = ap file_image split ∙ f.read_back.image_then rest in
    let size = f.is_file.size in
    let ok : c.decode_to_buf.result ≡ Ok h = ok_of c.decode_to_buf.result h
    (IfOk-weaker c.decode_to_buf.result _ _ (λ k d. let found = d.0.header in let same : k ≡ h = cc in same) c.decode_to_buf.ensures.decoded)
    (IfErr-weaker c.decode_to_buf.result _ _ (λ e. ⊎_elim (λ r. r.not_front style h raw bytes rest f split)
    (λ (k, found, short). let same : k ≡ h = cc in let fewer = ap image_byte_count same in omega (arith, short.0, fewer, room, size))) c.decode_to_buf.ensures.refused) in
    let decoded = rw ok at c.decode_to_buf.ensures.decoded in
    (ok, ap (λ k. take k c.decode_to_buf.new.buf) size ∙ decoded.0.image ∙ image)
