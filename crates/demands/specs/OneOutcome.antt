-- Demand 1: what a call answers, and what is left in every lent buffer, is fixed.
--
--   Fixed Gives Meets     the chain of checks gives one answer, and one outcome meets the demand: a result with the lent buffers afterwards
--
--   ValidateFixed, DistancesFixed, CandidateFixed, CountFixed, ListFixed, RenumberFixed, WriteFixed, ReadFixed, ReadMolfileFixed    this, of each call
use Rattle.std.specs.Prelude.{◌≡◌, List, ℕ}
use Rattle.network.specs.declared.Answer.{Answer}
use Rattle.network.specs.Chain.{Answers, OneAnswer}
use Rattle.candidate.specs.Told.{Tested}
use Rattle.census.specs.Told.{Census}
use Rattle.bonds.specs.declared.Reading.{Reading}
use Rattle.bnw.specs.declared.FileWritten.{FileWritten}
use Rattle.demands.specs.Refusals.{ValidateSays, DistancesSays, CandidateSays, CountSays, ListSays, RenumberSays, WriteSays}
use Rattle.demands.specs.FileRefusals.{ReadSays}
use Rattle.demands.specs.MolfileRefusals.{ReadMolfileSays}
use Rattle.demands.specs.Calls.{ValidateMet, DistancesMet, CandidateMet, CountMet, ListMet, RenumberMet, WriteMet, ReadMet, ReadMolfileMet}

pub record Fixed {Out : Type 0} (Gives : Answers) (Meets : Out → Type 0) : Type 0 where
  pub answer : OneAnswer Gives
  pub outcome : (o p : Out) → Meets o → Meets p → o ≡ p

abbrev pub ValidateFixed : Type 0
ValidateFixed = (n : ℕ) (t : List ℕ) → Fixed (ValidateSays n t) (ValidateMet n t)

abbrev pub DistancesFixed : Type 0
DistancesFixed = (n : ℕ) (t dist : List ℕ) → Fixed (DistancesSays n t dist) (λ (o : Answer × List ℕ). DistancesMet n t dist o.1 o.0)

abbrev pub CandidateFixed : Type 0
CandidateFixed = (n : ℕ) (t r dist : List ℕ) → Fixed (CandidateSays n t r dist) (λ (o : Tested × List ℕ). CandidateMet n t r dist o.1 o.0)

abbrev pub CountFixed : Type 0
CountFixed =
    (n : ℕ) (t : List ℕ) (limit allowance : ℕ) (dist : List ℕ)
    → Fixed (CountSays n t limit allowance dist) (λ (o : Census × List ℕ). CountMet n t limit allowance dist o.1 o.0)

abbrev pub ListFixed : Type 0
ListFixed =
    (n : ℕ) (t : List ℕ) (limit allowance : ℕ) (dist list : List ℕ)
    → Fixed (ListSays n t limit allowance dist list) (λ (o : Census × List ℕ × List ℕ). ListMet n t limit allowance dist o.1 list o.2 o.0)

abbrev pub RenumberFixed : Type 0
RenumberFixed = (n : ℕ) (t names renamed : List ℕ) → Fixed (RenumberSays n t names renamed) (λ (o : Answer × List ℕ). RenumberMet n t names renamed o.1 o.0)

abbrev pub WriteFixed : Type 0
WriteFixed = (n : ℕ) (t file : List ℕ) → Fixed (WriteSays n t file) (λ (o : FileWritten × List ℕ). WriteMet n t file o.1 o.0)

abbrev pub ReadFixed : Type 0
ReadFixed = (file table : List ℕ) → Fixed (ReadSays file table) (λ (o : Reading × List ℕ). ReadMet file table o.1 o.0)

abbrev pub ReadMolfileFixed : Type 0
ReadMolfileFixed = (file table : List ℕ) → Fixed (ReadMolfileSays file table) (λ (o : Reading × List ℕ). ReadMolfileMet file table o.1 o.0)
