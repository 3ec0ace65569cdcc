-- Laws of the candidate test.
pub mod Values
pub mod ShorterPairs
pub mod Outcomes
