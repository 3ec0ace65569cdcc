use Rattle.std.proofs.Common.{◌≡◌, ◌+◌}
use Rattle.std.proofs.Math.Seq.{paste}
use Rattle.notes.proofs.write_ring.Given as goal

abbrev pub invariant-loop-i : goal.invariant-loop-i
invariant-loop-i l = l.list ≡ paste l.initial.list (l.at + 1) l.ring l.i
