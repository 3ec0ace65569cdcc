-- Laws of new numbers.
pub mod NameScans
pub mod NameFaults
pub mod Naming
