use Rattle.demands.proofs.Meets.{count_met}
use Rattle.calls.proofs.count.Goals as goal

pub returns : goal.returns
returns c = search count_met
