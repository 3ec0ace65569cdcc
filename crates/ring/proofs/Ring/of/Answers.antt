use Rattle.std.proofs.Common.{◌∙◌}
use Rattle.ring.proofs.Readers.{from_start}
use Rattle.ring.proofs.Ring.of.Goals as goal

pub returns : goal.returns
returns c = c.read.ensures ∙ from_start _
