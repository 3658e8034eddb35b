-- By the lemmas on the pixels of raw bytes.
use Rattle.qoi.proofs.format.RawPixels.{pixels_of_are, pixels_of_have, length-pixels_of, output-pixels_of}
use Rattle.qoi.proofs.laws.writing.bytes_are_pixels.Goals as goal

pub returns : goal.returns
returns c = record { pixels = pixels_of_are; channels = pixels_of_have; count = length-pixels_of; back = output-pixels_of }
