use Rattle.std.proofs.Common.{◌≡◌, ◌*◌, ◌++◌, map, drop}
use Rattle.network.specs.Maxima.{places}
use Rattle.bonds.specs.Bonds.{table_of}
use Rattle.bnw_reader.specs.FileBonds.{bond_from}
use Rattle.bnw_reader.proofs.rows.fill_table.Given as goal

abbrev pub invariant-loop-x : goal.invariant-loop-x
invariant-loop-x l = l.table ≡ table_of l.x (map bond_from l.bonds) ++ drop (places * l.x) l.initial.table
