-- What a call tells loses nothing: calls that tell the same answered the same. So where what is told is one (OneOutcome), the answer is.
use Rattle.std.proofs.Common.{ℕ, ◌≡◌, ◌∙◌, refl, sym, ap, arith, false, cond, eqb, ne_eqb, List, Result, Ok, Err}
use Rattle.network.specs.declared.Answer.{Answer}
use Rattle.network.specs.declared.refusals.Reason.{Reason}
use Rattle.network.specs.declared.refusals.Reason.TheVariants.{AtomCount, Limit, Allowance, TableLength, DistanceLength, RenumberingLength, NoAtom, AfterFree, OwnNeighbour, OutOfOrder, Unanswered, TooManyRings, ListLength, CandidateLength, CandidateNoAtom, CandidateTwice, CandidateApart, Name, FileShort, Mark, Version, FileAtoms, FileBonds, FileLength, TableShort, FileBond, NinthBond, FileRoom, LineMissing, NoVersion, NumberColumn, BondLine}
use Rattle.network.specs.declared.refusals.Refusal.{Refusal}
use Rattle.network.specs.Refusals.{number_of, refused, answer_of, told}
use Rattle.network.proofs.Refused.{numbered}
use Rattle.bnw.specs.declared.FileWritten.{FileWritten}
use Rattle.bnw.specs.Writing.{told_bytes}
use Rattle.candidate.specs.declared.Candidate.{Candidate}
use Rattle.candidate.specs.declared.Candidate.TheVariants.{Ring, CutShort}
use Rattle.candidate.specs.Told.{Shortest, Yes, No, Refused, Tested, tested_told}
use Rattle.census.specs.declared.Histogram.{Histogram}
use Rattle.census.specs.Told.{Census, histogram_told}

-- the reason with this number
abbrev reason_of : ℕ → Reason
reason_of n =
    cond (eqb n 1) AtomCount (
    cond (eqb n 2) Limit (
    cond (eqb n 3) Allowance (
    cond (eqb n 4) TableLength (
    cond (eqb n 5) DistanceLength (
    cond (eqb n 6) RenumberingLength (
    cond (eqb n 7) NoAtom (
    cond (eqb n 8) AfterFree (
    cond (eqb n 9) OwnNeighbour (
    cond (eqb n 10) OutOfOrder (
    cond (eqb n 11) Unanswered (
    cond (eqb n 12) TooManyRings (
    cond (eqb n 13) ListLength (
    cond (eqb n 14) CandidateLength (
    cond (eqb n 15) CandidateNoAtom (
    cond (eqb n 16) CandidateTwice (
    cond (eqb n 17) CandidateApart (
    cond (eqb n 18) Name (
    cond (eqb n 19) FileShort (
    cond (eqb n 20) Mark (
    cond (eqb n 21) Version (
    cond (eqb n 22) FileAtoms (
    cond (eqb n 23) FileBonds (
    cond (eqb n 24) FileLength (
    cond (eqb n 25) TableShort (
    cond (eqb n 26) FileBond (
    cond (eqb n 27) NinthBond (
    cond (eqb n 28) FileRoom (
    cond (eqb n 29) LineMissing (
    cond (eqb n 30) NoVersion (
    cond (eqb n 31) NumberColumn (
    BondLine)))))))))))))))))))))))))))))))

reason_back : (r : Reason) → reason_of (number_of r) ≡ r
reason_back AtomCount = refl
reason_back Limit = refl
reason_back Allowance = refl
reason_back TableLength = refl
reason_back DistanceLength = refl
reason_back RenumberingLength = refl
reason_back NoAtom = refl
reason_back AfterFree = refl
reason_back OwnNeighbour = refl
reason_back OutOfOrder = refl
reason_back Unanswered = refl
reason_back TooManyRings = refl
reason_back ListLength = refl
reason_back CandidateLength = refl
reason_back CandidateNoAtom = refl
reason_back CandidateTwice = refl
reason_back CandidateApart = refl
reason_back Name = refl
reason_back FileShort = refl
reason_back Mark = refl
reason_back Version = refl
reason_back FileAtoms = refl
reason_back FileBonds = refl
reason_back FileLength = refl
reason_back TableShort = refl
reason_back FileBond = refl
reason_back NinthBond = refl
reason_back FileRoom = refl
reason_back LineMissing = refl
reason_back NoVersion = refl
reason_back NumberColumn = refl
reason_back BondLine = refl

refusal_of : Answer → Refusal
refusal_of a = refused (reason_of a.code) a.row a.place

refusal_back : (r : Refusal) → refusal_of (answer_of r) ≡ r
unfolding refusal_of
refusal_back r = rw (reason_back r.reason) refl

numbered_no : (r : Refusal) → eqb (number_of r.reason) 0 ≡ false
numbered_no r = ne_eqb _ _ (λ z. omega (arith, numbered r.reason, z))

outcome_of : Answer → Result Unit Refusal
outcome_of a = cond (eqb a.code 0) (Ok tt) (Err (refusal_of a))

outcome_back : (o : Result Unit Refusal) → outcome_of (told o) ≡ o
unfolding outcome_of
outcome_back (Ok x) = refl
outcome_back (Err r) = rw (numbered_no r, refusal_back r) refl

pub told_tells : (o p : Result Unit Refusal) → told o ≡ told p → o ≡ p
told_tells o p e = sym (outcome_back o) ∙ ap outcome_of e ∙ outcome_back p

histogram_of : Census → Result Histogram Refusal
histogram_of c = cond (eqb c.answer.code 0) (Ok (record { limit = c.limit; counts = c.counts; total = c.total; words = c.words; averages = c.averages })) (Err (refusal_of c.answer))

histogram_back : (o : Result Histogram Refusal) → histogram_of (histogram_told o) ≡ o
unfolding histogram_of
histogram_back (Ok h) = refl
histogram_back (Err r) = rw (numbered_no r, refusal_back r) refl

pub histogram_tells : (o p : Result Histogram Refusal) → histogram_told o ≡ histogram_told p → o ≡ p
histogram_tells o p e = sym (histogram_back o) ∙ ap histogram_of e ∙ histogram_back p

candidate_of : Answer → List ℕ → Shortest → Result Candidate Refusal
candidate_of a writing Yes = Ok (Ring writing)
candidate_of a writing (No i j) = Ok (CutShort i j)
candidate_of a writing Refused = Err (refusal_of a)

tested_of : Tested → Result Candidate Refusal
tested_of c = candidate_of c.answer c.writing c.shortest

tested_back : (o : Result Candidate Refusal) → tested_of (tested_told o) ≡ o
unfolding tested_of candidate_of
tested_back (Ok (Ring writing)) = refl
tested_back (Ok (CutShort i j)) = refl
tested_back (Err r) = rw (refusal_back r) refl

pub tested_tells : (o p : Result Candidate Refusal) → tested_told o ≡ tested_told p → o ≡ p
tested_tells o p e = sym (tested_back o) ∙ ap tested_of e ∙ tested_back p

bytes_of : FileWritten → Result ℕ Refusal
bytes_of w = cond (eqb w.answer.code 0) (Ok w.bytes) (Err (refusal_of w.answer))

bytes_back : (o : Result ℕ Refusal) → bytes_of (told_bytes o) ≡ o
unfolding bytes_of
bytes_back (Ok bytes) = refl
bytes_back (Err r) = rw (numbered_no r, refusal_back r) refl

pub bytes_tell : (o p : Result ℕ Refusal) → told_bytes o ≡ told_bytes p → o ≡ p
bytes_tell o p e = sym (bytes_back o) ∙ ap bytes_of e ∙ bytes_back p
