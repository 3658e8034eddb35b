-- A refusal says that no file stands at the front.
use Rattle.std.proofs.Common.{◌≡◌, ◌∙◌, Ok, ap, ⊎_elim}
use Rattle.std.proofs.lemmas.Result.{IfOk-weaker, IfErr-weaker, MatchResult-from_both}
use Rattle.qoi.specs.Qoi.{header_of}
use Rattle.qoi.specs.Images.{file_image}
use Rattle.qoi_tool.proofs.tests.library.exact.vector_of_file.Goals as goal

pub returns-clause-accepts : goal.returns-clause-accepts
returns-clause-accepts c h cs rest f split =
    IfErr-weaker c.decode_to_vec.result _ _ (λ e. ⊎_elim (λ r. absurd (r.not_file h cs rest f split)) (λ none. none.0)) c.decode_to_vec.ensures.refused

pub returns-clause-followed : goal.returns-clause-followed
returns-clause-followed c style h raw bytes rest f split =
    let bytes_now = c.args.data.now in
    let header : header_of bytes_now ≡ Ok h = ap header_of split ∙ f.read_back.header_then rest in
    let image : file_image bytes_now ≡ raw = ap file_image split ∙ f.read_back.image_then rest in
    MatchResult-from_both c.decode_to_vec.result _ _
    (IfOk-weaker c.decode_to_vec.result _ _ (λ x d. let found = d.header in let same : x.0 ≡ h = cc in (same, d.image ∙ image)) c.decode_to_vec.ensures.decoded)
    (IfErr-weaker c.decode_to_vec.result _ _ (λ e. ⊎_elim (λ r. absurd (r.not_front style h raw bytes rest f split)) (λ none. none.0))
    c.decode_to_vec.ensures.refused)
