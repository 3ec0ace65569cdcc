-- The molfile, and what comes of reading one. Read Molfile first.
pub mod Lines
pub mod LineEnds
pub mod Columns
pub mod Molfile
pub mod Judging
pub mod Rows
pub mod Same
pub mod Faults
