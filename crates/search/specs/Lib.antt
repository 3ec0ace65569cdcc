-- What a step of the search is given, and what it has found after it.
pub mod Given
pub mod Near
pub mod State
pub mod Tallied
