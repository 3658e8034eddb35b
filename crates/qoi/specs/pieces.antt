-- Images that are read or written piece by piece.
pub mod Sizes
pub mod Unread
pub mod PixelReader
pub mod Mark
pub mod RowIndex
pub mod PixelWriter
pub mod Copying
pub mod Skipping
