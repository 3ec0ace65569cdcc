-- What a bond table is, what a validator says of one, and the chain of checks that every call's answers are composed of (Chain). Read Network first.
pub mod Maxima
pub mod Network
pub mod Verdict
pub mod Refusals
pub mod FirstFault
pub mod Chain
