-- Laws of the verdict on a candidate.
pub mod Firsts
pub mod CandidateVerdicts
pub mod FirstPlaces
