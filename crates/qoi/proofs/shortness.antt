-- Lemmas on how short a file is.
pub mod Costs
pub mod Lower
pub mod Reached
pub mod RegularLists
pub mod SlackSteps
pub mod Upper
