use Rattle.std.proofs.Common.{◌≡◌, ◌-◌, length}
use Rattle.bonds.specs.Scan.{first_bond}
use Rattle.bnw.specs.Reading.{file_bond_fault}
use Rattle.bnw_reader.specs.FileBonds.{among}
use Rattle.bnw_reader.proofs.file_bonds.bond_faults.Given as goal

abbrev pub invariant-loop-k : goal.invariant-loop-k
invariant-loop-k l = first_bond (file_bond_fault l.n (among l.bonds)) (length l.bonds) 0 ≡ first_bond (file_bond_fault l.n (among l.bonds)) (length l.bonds - l.k) l.k
