use Rattle.std.proofs.Common.{◌≡◌, ◌+◌, ◌*◌, length}
use Rattle.std.proofs.lemmas.List.Edits.{sets}
use Rattle.graph.specs.Lists.{gather, numbers_from}
use Rattle.bonds.specs.Bonds.{bond_at}
use Rattle.bnw.specs.File.{bond_bytes, head_length, bond_length}
use Rattle.bnw_writer.proofs.bytes.write_bonds.Given as goal

abbrev pub invariant-loop-i : goal.invariant-loop-i
invariant-loop-i l =
    (l.at ≡ head_length + bond_length * length (gather (bond_at l.table) (numbers_from l.i 0)))
    × (l.file ≡ sets l.initial.file head_length (gather bond_bytes (gather (bond_at l.table) (numbers_from l.i 0))))
