-- The paper's definitions, over any kind of vertex. Read Graph, Writing and Listing, then Standing and Carried (demands 2 and 3), Counts
-- and Finite; the rest computes.
pub mod Lists
pub mod Graph
pub mod Writing
pub mod Listing
pub mod Counts
pub mod Standing
pub mod Carried
pub mod Finite
pub mod Levels
pub mod Search
