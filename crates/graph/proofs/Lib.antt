-- Laws of the definitions.
pub mod Lists
pub mod Distances
pub mod Rings
pub mod Listings
pub mod Readings
pub mod Writings
pub mod Levels
pub mod Search
pub mod Pigeons
pub mod Finite
pub mod Listed
pub mod Renamings
pub mod Counts
pub mod Carried
pub mod Standing
pub mod Sums
