use Rattle.std.proofs.Common.{◌-◌, ◌≡◌}
use Rattle.network.specs.Maxima.{places}
use Rattle.distance.specs.Levels.{give, PassFilled}
use Rattle.distance.proofs.rows.give_all.Given as goal

abbrev pub invariant-loop-p : goal.invariant-loop-p
invariant-loop-p l = (give l.table l.v l.e places 0 l.initial.row ≡ give l.table l.v l.e (places - l.p) l.p l.row) × PassFilled l.initial.row l.row l.filled
