-- By the lemmas on the image at the front of bytes.
use Rattle.qoi.specs.Reading.{StandsAhead}
use Rattle.qoi.proofs.decoding.FrontImage.{image_is, rest_is, file_image_is, file_rest_is, image_in_own, three_of_file}
use Rattle.qoi.proofs.laws.reading.images_are_functions.Goals as goal

pub returns : goal.returns
unfolding StandsAhead
returns c = record {
  ahead = λ channels h bytes rest out image. (image_is channels h bytes rest out image, rest_is channels h bytes rest out image);
  file = λ bytes h rest out d. (file_image_is bytes h rest out d, file_rest_is bytes h rest out d);
  decoded = λ bytes h rest out d. (d, file_image_is bytes h rest out d, file_rest_is bytes h rest out d, (d.cs, rest, d.whole));
  own = λ bytes h. image_in_own h bytes;
  three = λ bytes h. three_of_file h bytes;
}
