-- States of loops, pixels as single numbers, and kept bytes.
pub mod BlockLoop
pub mod Chunks
pub mod Coder
pub mod Filling
pub mod Hashed
pub mod Packed
pub mod Sending
pub mod Table
-- One block: sixteen pixels at a time.
pub mod block
