-- An outcome and its answer: what is told is 0 exactly where the outcome is no refusal.
use Rattle.std.proofs.Common.{◌≡◌, ◌<◌, ap, refl, arith, Option, Some, Result, Ok, Err}
use Rattle.std.proofs.lemmas.Result.{err_from_is_err_and}
use Rattle.std.specs.Result.{IsErrAnd}
use Rattle.network.specs.declared.refusals.Reason.{Reason}
use Rattle.network.specs.declared.refusals.Reason.TheVariants.{AtomCount, Limit, Allowance, TableLength, DistanceLength, RenumberingLength, NoAtom, AfterFree, OwnNeighbour, OutOfOrder, Unanswered, TooManyRings, ListLength, CandidateLength, CandidateNoAtom, CandidateTwice, CandidateApart, Name, FileShort, Mark, Version, FileAtoms, FileBonds, FileLength, TableShort, FileBond, NinthBond, FileRoom, LineMissing, NoVersion, NumberColumn, BondLine}
use Rattle.network.specs.declared.refusals.Refusal.{Refusal}
use Rattle.network.specs.Refusals.{number_of, number_or_0, told}

pub numbered : (reason : Reason) → 0 < number_of reason
numbered AtomCount = omega arith
numbered Limit = omega arith
numbered Allowance = omega arith
numbered TableLength = omega arith
numbered DistanceLength = omega arith
numbered RenumberingLength = omega arith
numbered NoAtom = omega arith
numbered AfterFree = omega arith
numbered OwnNeighbour = omega arith
numbered OutOfOrder = omega arith
numbered Unanswered = omega arith
numbered TooManyRings = omega arith
numbered ListLength = omega arith
numbered CandidateLength = omega arith
numbered CandidateNoAtom = omega arith
numbered CandidateTwice = omega arith
numbered CandidateApart = omega arith
numbered Name = omega arith
numbered FileShort = omega arith
numbered Mark = omega arith
numbered Version = omega arith
numbered FileAtoms = omega arith
numbered FileBonds = omega arith
numbered FileLength = omega arith
numbered TableShort = omega arith
numbered FileBond = omega arith
numbered NinthBond = omega arith
numbered FileRoom = omega arith
numbered LineMissing = omega arith
numbered NoVersion = omega arith
numbered NumberColumn = omega arith
numbered BondLine = omega arith

pub told_err : (outcome : Result Unit Refusal) (refusal : Refusal) → outcome ≡ Err refusal → (told outcome).code ≡ 0 → ⊥
told_err outcome refusal e z = absurd (omega (arith, numbered refusal.reason, ap (λ (o : Result Unit Refusal). (told o).code) e))

pub told_ok : (outcome : Result Unit Refusal) (x : Unit) → outcome ≡ Ok x → (told outcome).code ≡ 0
told_ok outcome x e = ap (λ (o : Result Unit Refusal). (told o).code) e

-- the exit of a `?` is the outcome before it, where both are of one type
pub exit_same : {A : Type 0} (outcome last : Result A Refusal) (refusal : Refusal) → outcome ≡ Err refusal → IsErrAnd last (λ x. x ≡ refusal) → last ≡ outcome
exit_same outcome last refusal e f =
    let p = err_from_is_err_and last f in
    rw (p.1, p.2, e) refl

pub told_exit : (outcome last : Result Unit Refusal) (refusal : Refusal) → outcome ≡ Err refusal → IsErrAnd last (λ x. x ≡ refusal) → told last ≡ told outcome
told_exit outcome last refusal e f = ap told (exit_same outcome last refusal e f)

-- a reason found is no 0
pub numbered_or_0 : (r : Option Reason) (reason : Reason) → r ≡ Some reason → number_or_0 r ≡ 0 → ⊥
numbered_or_0 r reason e z = absurd (omega (arith, numbered reason, ap number_or_0 e))
