-- Sixteen pixels at a time, a block: in planes, lanes of chunks, vectors with counted repeats, pixels
-- put into the table, and stored chunks. What a block must meet is in `Vectors`.
pub mod Lanes
pub mod Planes
pub mod Positions
pub mod Storing
pub mod Vectors
