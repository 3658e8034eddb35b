pub mod Answers
pub mod Faults
pub mod Files
pub mod Lines
pub mod Pictures
pub mod Transfers
pub mod Words
