use Rattle.demands.proofs.SameRings.{renumber_then_list}
use Rattle.two_calls.proofs.renumbering.renumber_then_list.Goals as goal

pub returns : goal.returns
returns c = search renumber_then_list
