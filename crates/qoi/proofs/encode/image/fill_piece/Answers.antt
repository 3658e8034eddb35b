-- Some of the pixels are written, in the channels of the image.
use Rattle.qoi.proofs.encode.image.fill_piece.Goals as goal

pub returns-in-Rgb : goal.returns-in-Rgb
returns-in-Rgb g c = rw c.new.ensures.bytes at c.fill_in_channels.ensures

pub returns-in-Rgba : goal.returns-in-Rgba
returns-in-Rgba g c = rw c.new-in-Rgba.ensures.bytes at c.fill_in_channels-in-Rgba.ensures
