-- Laws of writing on a page, and of numbers.
pub mod Pages
pub mod Numbers
