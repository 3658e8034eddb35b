-- Lemmas on what each style chooses.
pub mod PlacedLists
pub mod StyleLists
pub mod StyledGroup
pub mod TightChoice
