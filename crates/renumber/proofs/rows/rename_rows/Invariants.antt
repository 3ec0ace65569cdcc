use Rattle.std.proofs.Common.{◌≡◌, ℕ, ◌<◌, length}
use Rattle.names.specs.Names.{name}
use Rattle.renumber.specs.Rows.{table_row, NewRow}
use Rattle.renumber.proofs.rows.rename_rows.Given as goal

abbrev pub invariant-loop-x : goal.invariant-loop-x
invariant-loop-x l = (length l.renamed ≡ length l.table) × ((y : ℕ) → y < l.x → NewRow l.names (table_row l.table y) (table_row l.renamed (name l.names y)))
