-- Laws of bonds. What is claimed stands in Returns and Readings; the others lead there, or to what readers and writers are proved by.
pub mod Runs
pub mod Order
pub mod Scan
pub mod Partners
pub mod Twice
pub mod TableBonds
pub mod Tables
pub mod Returns
pub mod Readings
