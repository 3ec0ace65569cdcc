use Rattle.std.proofs.lemmas.List.{at_drop_more, at_drop_all}
use Rattle.page.proofs.Pages.{puts_nothing, then}
use Rattle.text.specs.Lines.{counts_text}
use Rattle.text.proofs.lines.counts.Goals as goal

pub loop-length-preserved : goal.loop-length-preserved
unfolding counts_text
loop-length-preserved c = λ whole h. c.loop-length.invariant whole (rw (at_drop_more (counts_text c.loop-length.length) _ _ 0 c.loop-length-test.true) (then c.count.ensures h))

pub returns : goal.returns
unfolding counts_text
returns c = c.loop-length.invariant _ (rw (at_drop_all (counts_text c.loop-length.length) _ _ c.loop-length-test.false) (puts_nothing _))
