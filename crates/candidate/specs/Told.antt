-- What the test of a candidate tells, accepted or refused, as one record.
--
--   Shortest                    whether it is a shortest-path ring; if not, the first pair of its places whose network distance is shorter
--   Tested                      the answer, that, and the ring's one writing, or 24 words of 0
--   tested_told outcome         that of an outcome
use Rattle.std.specs.Prelude.{List, ℕ, replicate, Result, Ok, Err}
use Rattle.network.specs.declared.Answer.{Answer}
use Rattle.network.specs.declared.refusals.Refusal.{Refusal}
use Rattle.network.specs.Verdict.{accepted}
use Rattle.network.specs.Refusals.{answer_of}
use Rattle.ring.specs.Maxima.{ring_most}
use Rattle.candidate.specs.declared.Candidate.{Candidate}
use Rattle.candidate.specs.declared.Candidate.TheVariants.{Ring, CutShort}

pub data Shortest : Type 0 where
  Yes : Shortest
  No : ℕ → ℕ → Shortest
  Refused : Shortest

pub record Tested : Type 0 where
  pub answer : Answer
  pub shortest : Shortest
  pub writing : List ℕ

abbrev pub tested_told : Result Candidate Refusal → Tested
tested_told (Ok (Ring writing)) = record { answer = accepted; shortest = Yes; writing = writing }
tested_told (Ok (CutShort i j)) = record { answer = accepted; shortest = No i j; writing = replicate ring_most 0 }
tested_told (Err refusal) = record { answer = answer_of refusal; shortest = Refused; writing = replicate ring_most 0 }
