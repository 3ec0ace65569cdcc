use Rattle.distance.proofs.Fills.{level_next, level_end, visit_gives, visit_not, filled_more}
use Rattle.distance.proofs.rows.pass.Goals.{then-row-v, else-row-v}
use Rattle.distance.proofs.rows.pass.Goals as goal

pub loop-v-preserved : goal.loop-v-preserved
loop-v-preserved c = let next = level_next _ _ _ _ _ _ c.loop-v.invariant.0 c.loop-v-test.true in
    elim c.if-row-v.branch [
      | then-row-v w ↦ (let call = w.give_all-filled.ensures in
          rw (w.row-is, w.filled-is) (next _ (visit_gives _ _ _ _ _ w.if-row-v.true call.0), filled_more _ _ _ _ _ c.loop-v.invariant.1 call.1))
      | else-row-v w ↦ rw (w.row-is, w.filled-is) (next _ (visit_not _ _ _ _ w.if-row-v.false), c.loop-v.invariant.1)
    ]

pub returns : goal.returns
returns c = (level_end _ _ _ _ _ _ c.loop-v.invariant.0 c.loop-v-test.false, c.loop-v.invariant.1)
