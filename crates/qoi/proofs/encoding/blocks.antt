-- Lemmas on sixteen pixels at a time: what they write, and what is carried.
pub mod BlockStep
pub mod BlockWritten
pub mod FourFours
pub mod LaneBytes
pub mod LastCount
pub mod PackedBlock
pub mod ReadBlock
pub mod RgbaBlock
pub mod SpelledBlock
pub mod StyledBytes
