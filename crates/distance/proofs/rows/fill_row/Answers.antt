use Rattle.distance.proofs.Passes.{before_start, before_next, before_last}
use Rattle.distance.proofs.rows.fill_row.Goals as goal

pub loop-d-init : goal.loop-d-init
loop-d-init c = before_start _ _ _ _ c.requires.1 c.requires.0 (c.fill.ensures.after (λ y h. h))

pub loop-d-preserved : goal.loop-d-preserved
loop-d-preserved c = before_next _ _ _ _ _ _ _ c.loop-d.invariant c.pass.ensures.0 c.pass.ensures.1 c.loop-d-test.true

pub returns : goal.returns
returns c = before_last _ _ _ _ _ _ _ c.loop-d.invariant c.pass.ensures.0 c.pass.ensures.1 c.loop-d-test.false
