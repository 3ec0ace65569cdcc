-- The passes find the distances, and the statement of `distances` admits one outcome.
pub mod Fills
pub mod Spread
pub mod Passes
pub mod RowByRow
pub mod Outcomes
