use Rattle.page.proofs.Pages.{then}
use Rattle.text.specs.Lines.{listing_text}
use Rattle.text.proofs.listing.Goals as goal

pub returns : goal.returns
unfolding listing_text
returns c = then c.sizes_line.ensures (then c.rings.ensures (then c.counts.ensures c.total.ensures))
