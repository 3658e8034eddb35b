-- The file of no byte's pixel is decoded to black, whose file is another.
use Rattle.std.proofs.Common.{◌≡◌, [], ◌∷◌, slice_index, refl, sym, ap, ◌∙◌, arith}
use Rattle.qoi.specs.declared.types.Style.TheVariants.{Reference}
use Rattle.qoi.specs.Qoi.{default_header, header_size, pixel_eq, start, blank, after_diff, after_luma, hash}
use Rattle.qoi.specs.Runs.{runs_by}
use Rattle.qoi.specs.WrittenList.{list_after, first_chunk}
use Rattle.qoi.specs.Encoded.{image_file}
use Rattle.qoi.specs.Images.{file_image, front_image, front_chunks, chunks_after}
use Rattle.qoi.proofs.FileOf.{file_of_image}
use Rattle.qoi_tool.proofs.tests.library.written_lists.sent_examples.Goals as goal

pub returns-clause-no_byte : goal.returns-clause-no_byte
unfolding file_image image_file list_after pixel_eq start runs_by blank first_chunk front_image front_chunks chunks_after after_diff after_luma hash
returns-clause-no_byte c sent =
    let read = (file_of_image Reference default_header sent.raw sent.valid sent.size sent.are).read_back.image in
    let black : file_image (image_file Reference default_header (256 ∷ 0 ∷ 0 ∷ [])) ≡ 0 ∷ 0 ∷ 0 ∷ [] = refl in
    let is : sent.raw ≡ 0 ∷ 0 ∷ 0 ∷ [] = sym read ∙ ap file_image (sym sent.sent) ∙ black in
    let byte : 0x6a ≡ 0xc0 = ap (λ bytes. slice_index bytes header_size) (sent.sent ∙ ap (image_file Reference default_header) is) in absurd (omega (arith, byte))
