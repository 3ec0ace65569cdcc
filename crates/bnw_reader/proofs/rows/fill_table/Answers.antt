use Rattle.std.proofs.Common.{arith}
use Rattle.bnw_reader.proofs.WrittenRows.{table_first, row_put}
use Rattle.bnw_reader.proofs.rows.fill_table.Goals as goal

pub loop-x-init : goal.loop-x-init
loop-x-init c = table_first _ _

pub loop-x-preserved : goal.loop-x-preserved
loop-x-preserved c = row_put _ _ c.requires.few _ _ _ _ c.loop-x.invariant c.fill_row.ensures (omega arith)
