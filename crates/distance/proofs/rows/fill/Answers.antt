use Rattle.std.proofs.Common.{◌∙◌}
use Rattle.distance.proofs.RowByRow.{part_long, put_rows}
use Rattle.distance.proofs.rows.fill.Goals as goal

pub loop-s-preserved : goal.loop-s-preserved
loop-s-preserved c = let l = c.loop-s-test.true in
    let long = c.loop-s.auto.dist ∙ c.requires.0 in
    let e = part_long c.args.n c.loop-s.s c.loop-s.dist l long in
    put_rows _ _ _ l long c.fill_row.new.row c.fill_row.auto.row _ (λ y m. c.fill_row.ensures y (rw e m)) c.loop-s.invariant
