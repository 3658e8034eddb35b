pub mod Files
pub mod WordLists
