-- By the file of the list that is written.
use Rattle.qoi.proofs.FileOf.{file_of_image}
use Rattle.qoi.proofs.laws.writing.images_have_files.Goals as goal

pub returns : goal.returns
returns c = file_of_image
