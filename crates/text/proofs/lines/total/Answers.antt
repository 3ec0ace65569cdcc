use Rattle.page.proofs.Pages.{then}
use Rattle.text.specs.Lines.{total_text}
use Rattle.text.proofs.lines.total.Goals as goal

pub returns : goal.returns
unfolding total_text
returns c = then c.named.ensures c.byte.ensures
