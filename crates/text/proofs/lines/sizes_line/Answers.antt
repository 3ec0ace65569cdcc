use Rattle.page.proofs.Pages.{then}
use Rattle.text.specs.Lines.{sizes_text}
use Rattle.text.proofs.lines.sizes_line.Goals as goal

pub returns : goal.returns
unfolding sizes_text
returns c = then c.named.ensures (then c.named-2.ensures c.byte.ensures)
