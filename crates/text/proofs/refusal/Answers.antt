use Rattle.page.proofs.Pages.{then}
use Rattle.text.specs.Lines.{refusal_text}
use Rattle.text.proofs.refusal.Goals as goal

pub returns : goal.returns
unfolding refusal_text
returns c = then c.named.ensures (then c.named-2.ensures (then c.named-3.ensures c.byte.ensures))
