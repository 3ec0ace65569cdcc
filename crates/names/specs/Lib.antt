-- New numbers for atoms, and which of them are refused.
pub mod Names
