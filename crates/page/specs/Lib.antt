-- What is written: a page that bytes are put on (Page), and numbers in decimal (Numbers).
pub mod Page
pub mod Numbers
