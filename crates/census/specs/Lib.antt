-- What counting and listing say (Census), and what comes of the checks before the search, and passing them says (Prepared).
pub mod Told
pub mod Census
pub mod Prepared
