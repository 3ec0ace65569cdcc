-- Why a call is refused, as a reason, and as the numbers of its answer (document 01).
--
--   number_of reason            the number of a refusal
--   refused reason row place    the refusal with this reason, that names this row and place
--   answer_of refusal           its answer
--   told outcome                the answer of a call that is accepted or refused
--   network_of n                the network of n atoms, where n is a number of atoms
use Rattle.std.specs.Prelude.{ℕ, cond, Option, None, Some, Result, Ok, Err}
use Rattle.network.specs.declared.Answer.{Answer}
use Rattle.network.specs.declared.Network.{Network}
use Rattle.network.specs.declared.refusals.Reason.{Reason}
use Rattle.network.specs.declared.refusals.Reason.TheVariants.{AtomCount, Limit, Allowance, TableLength, DistanceLength, RenumberingLength, NoAtom, AfterFree, OwnNeighbour, OutOfOrder, Unanswered, TooManyRings, ListLength, CandidateLength, CandidateNoAtom, CandidateTwice, CandidateApart, Name, FileShort, Mark, Version, FileAtoms, FileBonds, FileLength, TableShort, FileBond, NinthBond, FileRoom, LineMissing, NoVersion, NumberColumn, BondLine}
use Rattle.network.specs.declared.refusals.Refusal.{Refusal}
use Rattle.network.specs.Verdict.{answer, accepted, not_atoms}

abbrev pub number_of : Reason → ℕ
number_of AtomCount = 1
number_of Limit = 2
number_of Allowance = 3
number_of TableLength = 4
number_of DistanceLength = 5
number_of RenumberingLength = 6
number_of NoAtom = 7
number_of AfterFree = 8
number_of OwnNeighbour = 9
number_of OutOfOrder = 10
number_of Unanswered = 11
number_of TooManyRings = 12
number_of ListLength = 13
number_of CandidateLength = 14
number_of CandidateNoAtom = 15
number_of CandidateTwice = 16
number_of CandidateApart = 17
number_of Name = 18
number_of FileShort = 19
number_of Mark = 20
number_of Version = 21
number_of FileAtoms = 22
number_of FileBonds = 23
number_of FileLength = 24
number_of TableShort = 25
number_of FileBond = 26
number_of NinthBond = 27
number_of FileRoom = 28
number_of LineMissing = 29
number_of NoVersion = 30
number_of NumberColumn = 31
number_of BondLine = 32

abbrev pub refused : Reason → ℕ → ℕ → Refusal
refused reason row place = record { reason = reason; row = row; place = place }

abbrev pub answer_of : Refusal → Answer
answer_of refusal = answer (number_of refusal.reason) refusal.row refusal.place

abbrev pub told : Result Unit Refusal → Answer
told (Ok _) = accepted
told (Err refusal) = answer_of refusal

-- the number of a reason, or 0 where there is none
abbrev pub number_or_0 : Option Reason → ℕ
number_or_0 None = 0
number_or_0 (Some reason) = number_of reason

unfoldable pub network_of : ℕ → Option Network
network_of n = cond (not_atoms n) None (Some (record { atoms = n }))
