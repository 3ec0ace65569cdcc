-- Laws of bond tables and verdicts.
pub mod PlaceFaults
pub mod Stands
pub mod Verdicts
pub mod Refused
pub mod FirstFaults
pub mod TableFaults
pub mod FaultlessTables
pub mod Chains
pub mod Networks
pub mod Bonds
