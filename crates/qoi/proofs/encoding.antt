-- Lemmas on encoding.
pub mod lists
pub mod styles
pub mod coder
pub mod blocks
pub mod lanes
pub mod stores
pub mod piece
