-- Laws of rings as words.
pub mod Readers
