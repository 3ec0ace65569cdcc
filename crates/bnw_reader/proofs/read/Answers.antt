use Rattle.std.proofs.Common.{rules, w32, to_z-of_z, ◌∙◌}
use Rattle.bnw_reader.proofs.Outcomes.{head_refused, bond_refused, rows_fit, few_partners, all_read}
use Rattle.bnw_reader.proofs.read.Goals as goal

pub returns-in-Err : goal.returns-in-Err
returns-in-Err c =
    rw (c.refused.ensures, c.into.ensures)
    (head_refused _ _ _ _ c.in-Err.ensures.refused.0 (to_z-of_z {w = w32} {z = c.in-Err.value} (search rules) ∙ c.in-Err.ensures.refused.1))

pub returns-in-Err-bond_faults : goal.returns-in-Err-bond_faults
returns-in-Err-bond_faults c = rw c.refused-in-Err-bond_faults.ensures (search (bond_refused, rules))

pub fill_table-requires-clause-room : goal.fill_table-requires-clause-room
fill_table-requires-clause-room c = search (rows_fit, rules)

pub fill_table-requires-clause-few : goal.fill_table-requires-clause-few
fill_table-requires-clause-few c = search (few_partners, rules)

pub returns : goal.returns
returns c = rw c.accepted.ensures (all_read _ _ _ _ c.in-Ok.ensures.right c.type_inv.file c.in_default.ensures _ c.fill_table.ensures)
