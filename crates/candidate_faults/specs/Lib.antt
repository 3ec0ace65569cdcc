-- The verdict on a candidate before it is tested, and what its refusals mean. Read CandidateVerdict first.
pub mod Firsts
pub mod CandidateVerdict
pub mod FirstPlaces
pub mod RightCandidate
