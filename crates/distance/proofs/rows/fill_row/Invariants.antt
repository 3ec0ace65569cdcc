use Rattle.std.proofs.Common.{length}
use Rattle.distance.specs.Levels.{unreached}
use Rattle.distance.proofs.Passes.{Before}
use Rattle.distance.proofs.rows.fill_row.Given as goal

abbrev pub invariant-loop-d : goal.invariant-loop-d
invariant-loop-d l = Before l.table (length l.fn.row) l.s l.d l.row

abbrev pub decreases-loop-d : goal.decreases-loop-d
decreases-loop-d l = unreached l.row
