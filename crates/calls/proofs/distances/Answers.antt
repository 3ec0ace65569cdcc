use Rattle.demands.proofs.Meets.{distances_met}
use Rattle.calls.proofs.distances.Goals as goal

pub returns : goal.returns
returns c = search distances_met
