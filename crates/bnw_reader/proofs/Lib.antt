-- Of reading: the head, and the bonds of a file as a slice of their bytes.
pub mod FileBonds
pub mod HeadRead
pub mod WrittenRows
pub mod Outcomes
