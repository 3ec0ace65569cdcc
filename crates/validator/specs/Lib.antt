-- What the validator's search for a first fault says.
pub mod Scan
