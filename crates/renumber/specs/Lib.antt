-- What comes of a renumbering. Read Outcome and Carried; Rows is what a row of the new table is.
pub mod Rows
pub mod Outcome
pub mod Carried
