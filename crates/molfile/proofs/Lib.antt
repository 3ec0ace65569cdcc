-- Laws of the molfile. What is claimed stands in Faults, Laws, Skipped and Shuffles; Reading says what comes of reading, at each way through the
-- checks, and the others lead there.
pub mod Lines
pub mod LineEnds
pub mod Inserted
pub mod Judged
pub mod Counts
pub mod Rows
pub mod Holding
pub mod Networks
pub mod Reading
pub mod Laws
pub mod Skipped
pub mod Shuffles
pub mod Faults
