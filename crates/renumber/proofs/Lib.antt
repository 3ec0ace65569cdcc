-- Laws of renumbering.
pub mod RenamedRows
pub mod PutRows
pub mod NewRows
pub mod Outcomes
pub mod OneOutcome
pub mod Home
pub mod Carried
