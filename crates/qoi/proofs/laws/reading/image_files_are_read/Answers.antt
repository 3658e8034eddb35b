-- By the file that an image has.
use Rattle.qoi.proofs.FileOf.{file_of_accepted}
use Rattle.qoi.proofs.laws.reading.image_files_are_read.Goals as goal

pub returns : goal.returns
returns c = record {
  image = λ style h raw width height are is. (file_of_accepted style h raw width height are is).read_back.image;
  all = λ style h raw width height are is. (file_of_accepted style h raw width height are is).read_back;
}
