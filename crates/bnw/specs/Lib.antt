-- The network file, and what comes of reading and writing one. Read File first.
pub mod File
pub mod Reading
pub mod FirstBond
pub mod Writing
