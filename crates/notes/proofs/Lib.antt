-- Noting one ring, and what noting many comes to.
pub mod Notes
pub mod Noted
