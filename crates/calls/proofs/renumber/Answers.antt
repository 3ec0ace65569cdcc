use Rattle.demands.proofs.Meets.{renumber_met}
use Rattle.calls.proofs.renumber.Goals as goal

pub returns : goal.returns
returns c = search renumber_met
