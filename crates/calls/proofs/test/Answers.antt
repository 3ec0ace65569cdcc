use Rattle.demands.proofs.Meets.{candidate_met}
use Rattle.calls.proofs.test.Goals as goal

pub returns : goal.returns
returns c = search candidate_met
