use Rattle.distance.proofs.Fills.{give_free, give_next, give_end, filled_more}
use Rattle.distance.proofs.rows.give_all.Goals as goal

pub returns-then-neighbour : goal.returns-then-neighbour
returns-then-neighbour c = (give_free _ _ _ _ _ _ c.loop-p.invariant.0 c.loop-p-test.true c.if-neighbour.true, c.loop-p.invariant.1)

pub loop-p-preserved : goal.loop-p-preserved
loop-p-preserved c = let call = c.offer_to-filled in
    (give_next _ _ _ _ _ _ c.loop-p.invariant.0 c.loop-p-test.true c.if-neighbour.false _ call.ensures.0, filled_more _ _ _ _ _ c.loop-p.invariant.1 call.ensures.1)

pub returns : goal.returns
returns c = (give_end _ _ _ _ _ _ c.loop-p.invariant.0 c.loop-p-test.false, c.loop-p.invariant.1)
