-- The demands.
--
-- 1. Every call ends on every input, stays inside what it was lent and checks its own input. Bad input gets a numbered refusal, exactly
--    when the outline says, naming the first fault; what is left in every lent buffer is fixed too.
--    That a call ends and stays inside what it was lent is what the checker proves of every function that it admits, whatever the function
--    ensures. The rest is stated in Calls, with the answers in Refusals, FileRefusals and MolfileRefusals, and that it is fixed in OneOutcome.
-- 2. In an accepted listing a cycle of 3 to the limit's number of bonds stands, once, exactly when between any two of its atoms the distance
--    round the ring is the distance in the whole network. One way to write a ring, one place in the list; counts and averages follow. An
--    accepted file read and written again gives the same bytes, and an accepted network written and read again the same network.
--    Stated in Rings, and of files in Files; a molfile gives the network of its bond lines (Calls: MolfileRead; document 02, request 1), which,
--    written as a network file, is read again (Files: MolfileThenFile).
-- 3. Renumber the atoms, then list; or list, then renumber the rings: the same set of rings. Limit, allowance and buffer lengths equal, both
--    succeed with equal counts or both are refused with the same number.
--    Stated in Renumbering.
--
-- What the programs print is stated in Program. The crates `calls` and `two_calls` ensure all this of the calls; what is claimed beside it
-- is one record:
--
--   Demands     one outcome of each call and one text of each file, and P1 to P11
use Rattle.demands.specs.OneOutcome.{ValidateFixed, DistancesFixed, CandidateFixed, CountFixed, ListFixed, RenumberFixed, WriteFixed, ReadFixed, ReadMolfileFixed}
use Rattle.demands.specs.Program.{RespondFixed, RespondMolfileFixed}
use Rattle.demands.specs.Examples.{ExamplesHold, ExamplesListed}

pub record Demands : Type 0 where
  -- what is demanded of a call is met by one outcome only (OneOutcome)
  pub validate : ValidateFixed
  pub distances : DistancesFixed
  pub candidate : CandidateFixed
  pub count : CountFixed
  pub list : ListFixed
  pub renumber : RenumberFixed
  pub read : ReadFixed
  pub read_molfile : ReadMolfileFixed
  pub write : WriteFixed
  -- what the programs print for a file is fixed, and the bytes that are read of a network file are enough (Program)
  pub respond : RespondFixed
  pub respond_molfile : RespondMolfileFixed
  -- P1 to P11 (Examples)
  pub examples : ExamplesHold
  pub examples_listed : ExamplesListed
