-- Counting the bonds of a table, and writing one.
pub mod Bonds
