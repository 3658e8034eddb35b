-- The image is that of the file, of so many bytes, in the file's own channels.
use Rattle.std.proofs.Common.{◌≡◌, sym, ap, drop}
use Rattle.qoi.specs.Images.{file_image, front_image, behind_header}
use Rattle.qoi.specs.Qoi.{header_size}
use Rattle.qoi.specs.pieces.RowIndex.{row_size}
use Rattle.qoi.proofs.decoding.RowIndexes.{image_size}
use Rattle.qoi.proofs.format.RectangleLaws.{length-part_of_picture}
use Rattle.qoi.proofs.decode.pixel_reader.row_index.RowIndex.rows.Goals as goal

pub returns-clause-rows : goal.returns-clause-rows
returns-clause-rows c h is index =
    let own : c.in_ok-channels.field-0 ≡ h = cc (c.in_ok-channels.ensures.read, is) in
    rw own at (c.rows_in.ensures.rows h is index)

pub returns-clause-image : goal.returns-clause-image
unfolding file_image
returns-clause-image c h is = sym (ap (λ r. behind_header (λ h. front_image h.channels h) r (drop header_size c.args.file.now)) is)

pub returns-clause-size : goal.returns-clause-size
returns-clause-size c h is index = image_size h _ _ is index

pub returns-clause-part : goal.returns-clause-part
returns-clause-part c h top left rows size is index below within =
    length-part_of_picture (row_size h.channels h) h.height top left rows size (file_image c.args.file.now) (image_size h _ _ is index) below within
