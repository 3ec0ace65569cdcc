-- Demand 1, and demand 2 of counting and listing: what is demanded of each call, refused or accepted. A lent buffer afterwards has a prime: dist,
-- dist'.
--
--   Met Gives Left Done a              a call has answered a: the chain of its checks gives this answer; refused, it has left what `Left` says,
--                                      accepted, it has done what `Done` says
--   AfterSearch n t dist dist' c       counting or listing is refused: every number is 0, and what is left in the distance buffer
--   NothingRead file table table' r    reading is refused: every number is 0 but the value at 22 and 23, and the table stays
--   NoMolfileRead file table table' r  reading a molfile is refused: every number is 0 but the value at 22, and the table stays
--   MolfileRead file table table' r    reading a molfile is accepted: the counts are the counts line's, and the first rows of the table have become those of
--                                      the network in which y is bonded to x exactly when some bond line has the pair; the rest stays
--
--   ValidateMet, DistancesMet, CandidateMet, CountMet, ListMet, RenumberMet, WriteMet, ReadMet, ReadMolfileMet    this, of each call and its buffers
use Rattle.std.specs.Prelude.{◌≡◌, ◌⊎◌, ◌↔◌, List, ◌++◌, ℕ, ◌*◌, pos, length, take, drop, replicate}
use Rattle.network.specs.declared.Answer.{Answer}
use Rattle.network.specs.Maxima.{places}
use Rattle.network.specs.Network.{Bonded, IsNetwork}
use Rattle.network.specs.Chain.{Answers}
use Rattle.distance.specs.Distances.{DistanceTable}
use Rattle.candidate.specs.Told.{Tested}
use Rattle.ring.specs.Maxima.{ring_most}
use Rattle.candidate.specs.CandidateOutcome.{no_values, values, RightValues}
use Rattle.census.specs.Told.{Census, no_census}
use Rattle.renumber.specs.Outcome.{Renumbered}
use Rattle.bonds.specs.declared.Reading.{Reading}
use Rattle.bonds.specs.Bonds.{bonds_of}
use Rattle.bnw.specs.declared.FileWritten.{FileWritten}
use Rattle.bnw.specs.File.{file_of}
use Rattle.bnw.specs.Reading.{atoms_in, bonds_in, signed, ReadsAs}
use Rattle.molfile.specs.Molfile.{atom_count, bond_count, Paired}
use Rattle.demands.specs.Refusals.{ValidateSays, DistancesSays, CandidateSays, CountSays, ListSays, RenumberSays, WriteSays}
use Rattle.demands.specs.FileRefusals.{ReadSays}
use Rattle.demands.specs.MolfileRefusals.{ReadMolfileSays}
use Rattle.demands.specs.Rings.{AcceptedCount, AcceptedListing}

pub record Met (Gives : Answers) (Left Done : Type 0) (a : Answer) : Type 0 where
  pub gives : Gives a
  pub refused : (a.code ≡ 0 → ⊥) → Left
  pub done : a.code ≡ 0 → Done

-- at 12 and 13 the distance buffer holds the distance table; at every other refusal it is as it was
pub record AfterSearch (n : ℕ) (t dist dist' : List ℕ) (c : Census) : Type 0 where
  pub nothing : c ≡ no_census c.answer
  pub late : (c.answer.code ≡ 12) ⊎ (c.answer.code ≡ 13) → DistanceTable n t dist'
  pub early : ((c.answer.code ≡ 12) ⊎ (c.answer.code ≡ 13) → ⊥) → dist' ≡ dist

-- nothing is read: but the count field goes with 22 and 23
pub record NothingRead (file table table' : List ℕ) (r : Reading) : Type 0 where
  pub atoms : r.atoms ≡ 0
  pub bonds : r.bonds ≡ 0
  pub stays : table' ≡ table
  pub value_22 : r.answer.code ≡ 22 → r.value ≡ signed (atoms_in file)
  pub value_23 : r.answer.code ≡ 23 → r.value ≡ signed (bonds_in file)
  pub value_else : (r.answer.code ≡ 22 → ⊥) → (r.answer.code ≡ 23 → ⊥) → r.value ≡ pos 0

-- nothing is read of a molfile: but the atom count goes with 22
pub record NoMolfileRead (file table table' : List ℕ) (r : Reading) : Type 0 where
  pub atoms : r.atoms ≡ 0
  pub bonds : r.bonds ≡ 0
  pub stays : table' ≡ table
  pub value_22 : r.answer.code ≡ 22 → r.value ≡ pos (atom_count file)
  pub value_else : (r.answer.code ≡ 22 → ⊥) → r.value ≡ pos 0

-- a molfile is read
pub record MolfileRead (file table table' : List ℕ) (r : Reading) : Type 0 where
  pub atoms : r.atoms ≡ atom_count file
  pub bonds : r.bonds ≡ bond_count file
  pub value : r.value ≡ pos 0
  pub network : IsNetwork r.atoms (take (places * r.atoms) table')
  pub bonded : (x y : ℕ) → Bonded (take (places * r.atoms) table') x y ↔ Paired file x y
  pub rest : drop (places * r.atoms) table' ≡ drop (places * r.atoms) table

-- the calls, each with the chain of its checks, what a refusal leaves, and what is done

-- nothing is lent
abbrev pub ValidateMet : ℕ → List ℕ → Answer → Type 0
ValidateMet n t a =
    Met (ValidateSays n t)
    (Unit {0})
    (IsNetwork n t)
    a

abbrev pub DistancesMet : ℕ → List ℕ → List ℕ → List ℕ → Answer → Type 0
DistancesMet n t dist dist' a =
    Met (DistancesSays n t dist)
    (dist' ≡ dist)
    (DistanceTable n t dist')
    a

abbrev pub CandidateMet : ℕ → List ℕ → List ℕ → List ℕ → List ℕ → Tested → Type 0
CandidateMet n t r dist dist' c =
    Met (CandidateSays n t r dist)
    ((dist' ≡ dist) × (values c.shortest ≡ no_values) × (c.writing ≡ replicate ring_most 0))
    (DistanceTable n t dist' × RightValues t r (values c.shortest) c.writing)
    c.answer

abbrev pub CountMet : ℕ → List ℕ → ℕ → ℕ → List ℕ → List ℕ → Census → Type 0
CountMet n t limit allowance dist dist' c =
    Met (CountSays n t limit allowance dist)
    (AfterSearch n t dist dist' c)
    (DistanceTable n t dist' × AcceptedCount n t limit c)
    c.answer

abbrev pub ListMet : ℕ → List ℕ → ℕ → ℕ → List ℕ → List ℕ → List ℕ → List ℕ → Census → Type 0
ListMet n t limit allowance dist dist' list list' c =
    Met (ListSays n t limit allowance dist list)
    (AfterSearch n t dist dist' c × (list' ≡ list))
    (DistanceTable n t dist' × AcceptedListing n t limit list list' c)
    c.answer

abbrev pub RenumberMet : ℕ → List ℕ → List ℕ → List ℕ → List ℕ → Answer → Type 0
RenumberMet n t names renamed renamed' a =
    Met (RenumberSays n t names renamed)
    (renamed' ≡ renamed)
    (Renumbered n t names renamed')
    a

abbrev pub WriteMet : ℕ → List ℕ → List ℕ → List ℕ → FileWritten → Type 0
WriteMet n t file file' w =
    Met (WriteSays n t file)
    ((w.bytes ≡ 0) × (file' ≡ file))
    ((w.bytes ≡ length (file_of n (bonds_of t))) × (file' ≡ file_of n (bonds_of t) ++ drop w.bytes file))
    w.answer

abbrev pub ReadMet : List ℕ → List ℕ → List ℕ → Reading → Type 0
ReadMet file table table' r =
    Met (ReadSays file table)
    (NothingRead file table table' r)
    (ReadsAs file table table' r × (r.value ≡ pos 0))
    r.answer

abbrev pub ReadMolfileMet : List ℕ → List ℕ → List ℕ → Reading → Type 0
ReadMolfileMet file table table' r =
    Met (ReadMolfileSays file table)
    (NoMolfileRead file table table' r)
    (MolfileRead file table table' r)
    r.answer
