-- Lemmas on chunks that are stored one after the other.
pub mod EachChunk
pub mod FourChunks
pub mod FourOrders
pub mod PrefixSums
pub mod Shuffles
pub mod StoredBlock
pub mod StoredParts
