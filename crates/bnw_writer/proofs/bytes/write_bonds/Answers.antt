use Rattle.std.proofs.Common.{sym, ◌∙◌, arith}
use Rattle.bnw.proofs.WrittenBonds.{none_past, none_written, bond_past, bond_written, past_more, written_more, written_done}
use Rattle.bnw_writer.proofs.Bonds.{one_bond, no_bond, bond_fits}
use Rattle.bnw_writer.proofs.bytes.write_bonds.Goals.{then-is_bond, else-is_bond}
use Rattle.bnw_writer.proofs.bytes.write_bonds.Goals as goal

pub put_field-requires : goal.put_field-requires
put_field-requires c = omega (arith, bond_fits c.args.table.now c.loop-i.i c.loop-i-test.true (sym c.is_bond.ensures ∙ c.if-is_bond.true))

pub put_field-requires-then-is_bond : goal.put_field-requires-then-is_bond
put_field-requires-then-is_bond c = omega (arith, bond_fits c.args.table.now c.loop-i.i c.loop-i-test.true (sym c.is_bond.ensures ∙ c.if-is_bond.true))

pub overflow_add-at-then-is_bond : goal.overflow_add-at-then-is_bond
overflow_add-at-then-is_bond c = omega (arith, bond_fits c.args.table.now c.loop-i.i c.loop-i-test.true (sym c.is_bond.ensures ∙ c.if-is_bond.true))

pub loop-i-preserved : goal.loop-i-preserved
loop-i-preserved c =
    let v = c.loop-i.invariant in
    let t = c.args.table.now in
    elim c.if-is_bond.branch [
      | then-is_bond w ↦ (
          let one = one_bond t c.loop-i.i (sym c.is_bond.ensures ∙ w.if-is_bond.true) in (
            past_more _ _ _ _ v.0 (w.at-is ∙ bond_past _ _ _ one),
            written_more _ _ _ _ _ _ v.0 v.1 (w.file-is ∙ bond_written _ _ _ one _ _ _ w.put_field.ensures w.put_field-then-is_bond.ensures),
          )
          )
      | else-is_bond w ↦ (
          let none = no_bond t c.loop-i.i (sym c.is_bond.ensures ∙ w.if-is_bond.false) in (
            past_more _ _ _ _ v.0 (w.at-is ∙ none_past _ _ _ none),
            written_more _ _ _ _ _ _ v.0 v.1 (w.file-is ∙ none_written _ _ _ none _),
          )
          )
    ]

pub returns : goal.returns
returns c = written_done _ _ _ _ (omega arith) (omega arith) c.loop-i.invariant.1
