pub mod format
pub mod decoding
pub mod encoding
pub mod shortness
pub mod FileOf
pub mod Copied
pub mod Skipped
pub mod Results
