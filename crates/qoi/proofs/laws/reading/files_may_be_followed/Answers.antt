-- A file that is followed is decoded as before.
use Rattle.std.proofs.Common.{◌++◌, sym}
use Rattle.qoi.proofs.decoding.FrontImage.{file_image_is, file_rest_then, decodes_more}
use Rattle.qoi.proofs.laws.reading.files_may_be_followed.Goals as goal

pub returns : goal.returns
returns c = record {
  decoded = decodes_more;
  header = λ bytes more h rest out f. (decodes_more bytes more h rest out f).header;
  image = λ bytes more h rest out f. sym (file_image_is (bytes ++ more) h (rest ++ more) out (decodes_more bytes more h rest out f));
  rest = file_rest_then;
}
