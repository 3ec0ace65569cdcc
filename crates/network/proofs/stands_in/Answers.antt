use Rattle.network.proofs.Stands.{in_no_row, in_a_row}
use Rattle.network.proofs.stands_in.Goals as goal

pub returns-then-table-y : goal.returns-then-table-y
returns-then-table-y c = search in_no_row

pub returns : goal.returns
returns c = search in_a_row
