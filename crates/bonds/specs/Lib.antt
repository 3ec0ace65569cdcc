-- Bonds, and what comes of reading a file of them. Read Bonds first.
pub mod Bonds
pub mod Scan
pub mod Outcome
