-- Demand 1, the answers of reading a molfile: 29, 30, 31, 22, 25, 29 for a missing atom line, then 29, 31, 32 and 27 bond by bond.
--
--   ReadMolfileSays file table    the answers of reading the molfile into the table lent
use Rattle.std.specs.Prelude.{List, ℕ, ◌*◌, ◌≤◌, length}
use Rattle.network.specs.Maxima.{places}
use Rattle.network.specs.Network.{Counted}
use Rattle.network.specs.Chain.{Answers, Check, Accepted}
use Rattle.bonds.specs.Scan.{BondByBond}
use Rattle.molfile.specs.Molfile.{counts_in, atom_count, bond_count, bond_line}
use Rattle.molfile.specs.Faults.{HeadThere, VersionThere, TwoNumbers, AtomsThere, PairFault}

abbrev pub ReadMolfileSays : List ℕ → List ℕ → Answers
ReadMolfileSays file table =
    Check 29 (HeadThere file)
    (Check 30 (VersionThere (counts_in file))
    (Check 31 (TwoNumbers (counts_in file))
    (Check 22 (Counted (atom_count file))
    (Check 25 (places * atom_count file ≤ length table)
    (Check 29 (AtomsThere file)
    (BondByBond (PairFault (atom_count file) (bond_line file)) (bond_count file)
    Accepted))))))
