-- What is printed: the lines (Lines) in letters (Letters).
pub mod Letters
pub mod Lines
