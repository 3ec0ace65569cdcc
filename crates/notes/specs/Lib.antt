-- Noting the rings that are found.
pub mod Noting
