-- Every text fits (Fits), what stands on the page is the text (Texts), and a file has one text (OneText).
pub mod Fits
pub mod Texts
pub mod OneText
