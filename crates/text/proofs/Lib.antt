-- Laws of the lines.
pub mod Words
pub mod Lengths
