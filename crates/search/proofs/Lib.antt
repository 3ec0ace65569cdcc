-- What the functions do, step by step: laws that serve their proofs.
pub mod Ahead
pub mod Paths
pub mod Rows
pub mod Steps
pub mod Outcomes
pub mod Tests
