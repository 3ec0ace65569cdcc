-- What comes of testing a candidate. Read CandidateOutcome; ShorterPairs says what the test looks for.
pub mod Told
pub mod CandidateOutcome
pub mod ShorterPairs
