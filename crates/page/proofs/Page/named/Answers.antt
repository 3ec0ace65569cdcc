use Rattle.page.proofs.Pages.{then}
use Rattle.page.proofs.Page.named.Goals as goal

pub returns : goal.returns
returns c = then c.bytes.ensures c.number.ensures
