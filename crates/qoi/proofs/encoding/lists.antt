-- Lemmas on the list that is written.
pub mod GroupRuns
pub mod ListAhead
pub mod NotedPixels
pub mod RunBytes
pub mod WrittenExists
pub mod WrittenOnce
pub mod WrittenShape
