use Rattle.std.proofs.lemmas.List.{take_more}
use Rattle.page.proofs.Pages.{puts_nothing, then}
use Rattle.page.proofs.Page.bytes.Goals as goal

pub loop-letter-init : goal.loop-letter-init
loop-letter-init c = puts_nothing _

pub loop-letter-preserved : goal.loop-letter-preserved
loop-letter-preserved c = rw (take_more _ _ 0 c.loop-letter-test.true) (then c.loop-letter.invariant c.byte.ensures)
