-- The tables of examples, near misses and repeats hold, by tests that the checker computes and that are right (Tests).
pub mod Tests
pub mod Examples
pub mod NearMisses
pub mod Repeats
pub mod Counts
