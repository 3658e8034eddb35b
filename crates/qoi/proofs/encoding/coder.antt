-- Lemmas on what the coder does pixel by pixel.
pub mod CoderLink
pub mod CoderSteps
pub mod CoderTable
pub mod MarkedPixels
pub mod PixelBlock
pub mod PixelsIn
pub mod Spelled
pub mod SpelledPixel
