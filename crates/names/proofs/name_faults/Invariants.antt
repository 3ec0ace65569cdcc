use Rattle.std.proofs.Common.{◌≡◌, ◌≤◌, ◌-◌, length}
use Rattle.network.specs.Verdict.{accepted}
use Rattle.names.specs.Names.{name_faults}
use Rattle.names.proofs.name_faults.Given as goal

abbrev pub invariant-loop-i : goal.invariant-loop-i
invariant-loop-i l = (l.i ≤ length l.names) × (name_faults l.n l.names (length l.names) 0 accepted ≡ name_faults l.n l.names (length l.names - l.i) l.i accepted)
