use Rattle.distance.proofs.RowByRow.{Rows}
use Rattle.distance.proofs.rows.fill.Given as goal

abbrev pub invariant-loop-s : goal.invariant-loop-s
invariant-loop-s l = Rows l.table l.n l.s l.dist
