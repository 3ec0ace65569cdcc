-- Rings per atom, and the mean length of the rings.
pub mod Averages
