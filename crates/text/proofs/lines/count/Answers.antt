use Rattle.std.proofs.Common.{eq-eqb, ne_eqb}
use Rattle.page.proofs.Pages.{puts_nothing, then}
use Rattle.text.specs.Lines.{count_text}
use Rattle.text.proofs.lines.count.Goals as goal

pub returns-then-rings-eq0 : goal.returns-then-rings-eq0
unfolding count_text
returns-then-rings-eq0 c = rw (eq-eqb _ _ c.if-rings-eq0.true) (puts_nothing _)

pub returns : goal.returns
unfolding count_text
returns c = rw (ne_eqb _ _ c.if-rings-eq0.false) (then c.named.ensures (then c.named-2.ensures c.byte.ensures))
