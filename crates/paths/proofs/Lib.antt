-- Laws of the search as functions on lists. Read Listed and Counts; the rest serves them.
pub mod Below
pub mod Members
pub mod Order
pub mod Harmless
pub mod Listed
pub mod Counts
