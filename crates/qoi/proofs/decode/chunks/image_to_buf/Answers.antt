-- From the first chunk on.
use Rattle.std.proofs.lemmas.Result.{IfErr-weaker, on_ok_weaker}
use Rattle.qoi.proofs.decoding.Progress.{fillable_whole, reads_all_of, refuses_all_of}
use Rattle.qoi.proofs.decode.chunks.image_to_buf.Goals as goal

pub rest_of_image-requires : goal.rest_of_image-requires
rest_of_image-requires g c = fillable_whole c.requires.channels c.requires.whole

pub returns-clause-read : goal.returns-clause-read
returns-clause-read g c =
    on_ok_weaker c.rest_of_image.result (λ r. reads_all_of c.requires.channels c.requires.whole c.new-table.ensures c.start-last.ensures r) c.rest_of_image.ensures.read

pub returns-clause-refused : goal.returns-clause-refused
returns-clause-refused g c =
    IfErr-weaker c.rest_of_image.result _ _ (λ e r. refuses_all_of _ _ e c.requires.channels c.requires.whole c.new-table.ensures c.start-last.ensures r) c.rest_of_image.ensures.refused
