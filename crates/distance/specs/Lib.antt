-- What the distance buffer holds, and what comes of filling it. Levels says how.
pub mod Distances
pub mod Outcome
pub mod Levels
