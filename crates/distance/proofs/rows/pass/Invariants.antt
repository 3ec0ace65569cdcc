use Rattle.std.proofs.Common.{◌-◌, ◌≡◌, length}
use Rattle.distance.specs.Levels.{level, PassFilled}
use Rattle.distance.proofs.rows.pass.Given as goal

abbrev pub invariant-loop-v : goal.invariant-loop-v
invariant-loop-v l = (level l.table l.d (length l.initial.row) 0 l.initial.row ≡ level l.table l.d (length l.initial.row - l.v) l.v l.row) × PassFilled l.initial.row l.row l.filled
