-- The format.
pub mod Qoi
-- Raw bytes and pixels.
pub mod Raw
-- Which bytes are accepted, and what decoding returns.
pub mod Verdicts
pub mod Decoding
pub mod DecoderState
pub mod Reading
pub mod Images
pub mod Decoded
-- Rows and rectangles of raw bytes.
pub mod Rectangles
-- The list that is written.
pub mod Runs
pub mod Written
-- How short a list is.
pub mod Regular
pub mod Shortest
pub mod Tight
-- The list of each style, and the file of an image.
pub mod Styles
pub mod WrittenList
pub mod Encoded
pub mod EncoderState
pub mod Sent
pub mod Tiles
-- Images piece by piece.
pub mod pieces
-- Errors and their texts.
pub mod Errors
pub mod ErrorText
-- Writers' relations.
pub mod Writers
-- States of loops.
pub mod inner
