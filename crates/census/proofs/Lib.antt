-- Laws of what counting and listing answer: the checks before the search (Passed), an accepted census (Settled), one outcome of each call
-- (OneOutcome).
pub mod Passed
pub mod Settled
pub mod OneOutcome
