use Rattle.std.proofs.Common.{rules}
use Rattle.bonds.proofs.Scan.{bonds_here, bonds_next, bonds_never}
use Rattle.network.proofs.Refused.{numbered_or_0}
use Rattle.bnw_reader.proofs.file_bonds.bond_faults.Goals as goal

pub returns-in-Some : goal.returns-in-Some
returns-in-Some c = search (bonds_here, numbered_or_0, rules)

pub loop-k-preserved : goal.loop-k-preserved
loop-k-preserved c = search (bonds_next, rules)

pub returns : goal.returns
returns c = search (bonds_never, rules)
