-- Demand 2, of files.
--
--   rows_read r table'          the rows that a reading has filled
--   ReadThenWrite file table table' lent lent' r      both calls meet what is demanded of them; an accepted reading leaves a network,
--                               and writing this, where the bytes lent have room, is accepted and gives the file
--   WriteThenRead n t file file' table table' r       both calls meet what is demanded of them; after an accepted writing, reading what
--                               it wrote, where the table lent has room, is accepted and gives the network
--   MolfileThenFile file table table' lent lent' again again' r    the three calls meet what is demanded of them; after an accepted reading of a molfile,
--                               writing its network as a network file and reading this, where both have room, are accepted and give the
--                               same atoms, bonds and rows
use Rattle.std.specs.Prelude.{◌≡◌, List, ℕ, ◌+◌, ◌*◌, ◌≤◌, length, take}
use Rattle.network.specs.Maxima.{places}
use Rattle.network.specs.Network.{IsNetwork}
use Rattle.bonds.specs.declared.Reading.{Reading}
use Rattle.bnw.specs.File.{head_length, bond_length}
use Rattle.demands.specs.declared.ReadAndWritten.{ReadAndWritten}
use Rattle.demands.specs.declared.ReadAndWrittenAndRead.{ReadAndWrittenAndRead}
use Rattle.demands.specs.Calls.{ReadMet, ReadMolfileMet, WriteMet}

abbrev pub rows_read : Reading → List ℕ → List ℕ
rows_read r table' = take (places * r.atoms) table'

pub record ReadThenWrite (file table table' lent lent' : List ℕ) (r : ReadAndWritten) : Type 0 where
  pub read : ReadMet file table table' r.reading
  pub written : WriteMet r.reading.atoms (rows_read r.reading table') lent lent' r.writing
  pub network : r.reading.answer.code ≡ 0 → IsNetwork r.reading.atoms (rows_read r.reading table')
  pub back : r.reading.answer.code ≡ 0 → length file ≤ length lent → (r.writing.answer.code ≡ 0) × (take r.writing.bytes lent' ≡ file)

pub record WriteThenRead (n : ℕ) (t file file' table table' : List ℕ) (r : ReadAndWritten) : Type 0 where
  pub written : WriteMet n t file file' r.writing
  pub read : ReadMet (take r.writing.bytes file') table table' r.reading
  pub back : r.writing.answer.code ≡ 0 → places * n ≤ length table → (r.reading.answer.code ≡ 0) × (r.reading.atoms ≡ n) × (rows_read r.reading table' ≡ t)

pub record MolfileThenFile (file table table' lent lent' again again' : List ℕ) (r : ReadAndWrittenAndRead) : Type 0 where
  pub read : ReadMolfileMet file table table' r.reading
  pub written : WriteMet r.reading.atoms (rows_read r.reading table') lent lent' r.writing
  pub read_again : ReadMet (take r.writing.bytes lent') again again' r.again
  pub back : r.reading.answer.code ≡ 0 → head_length + bond_length * r.reading.bonds ≤ length lent → places * r.reading.atoms ≤ length again
      → (r.writing.answer.code ≡ 0)
      × (r.again.answer.code ≡ 0)
      × (r.again.atoms ≡ r.reading.atoms)
      × (r.again.bonds ≡ r.reading.bonds)
      × (rows_read r.again again' ≡ rows_read r.reading table')
