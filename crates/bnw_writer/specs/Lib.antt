-- Which words of a table are bonds to write.
pub mod Words
