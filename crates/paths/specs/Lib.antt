-- The rings that a search finds (Search), where it turns back (Turn), and shortest-path rings as a table and a buffer show them (Shown).
pub mod Search
pub mod Turn
pub mod Shown
