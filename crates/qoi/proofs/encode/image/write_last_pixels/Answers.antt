-- In the channels of the image.
use Rattle.qoi.proofs.encoding.coder.CoderLink.{of_coder}
use Rattle.qoi.proofs.encode.image.write_last_pixels.Goals as goal

pub returns-in-Rgb : goal.returns-in-Rgb
returns-in-Rgb g c = λ unsent s. c.write_last_in_channels.ensures.all unsent (of_coder c.new.ensures.style c.new.ensures.last (rw c.in-Rgb.is at s))

pub returns-in-Rgba : goal.returns-in-Rgba
returns-in-Rgba g c = λ unsent s.
    c.write_last_in_channels-in-Rgba.ensures.all unsent (of_coder c.new-in-Rgba.ensures.style c.new-in-Rgba.ensures.last (rw c.in-Rgba.is at s))
