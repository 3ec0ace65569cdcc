-- How the reader holds the bonds of a file.
pub mod FileBonds
