-- Lemmas on vectors of sixteen bytes, lane by lane.
pub mod BlankLanes
pub mod LaneBits
pub mod LaneChunk
pub mod LaneMasks
pub mod LaneTests
pub mod Lanewise
pub mod OverlaidRuns
pub mod RunningMost
pub mod StandMasks
pub mod WordPlanes
