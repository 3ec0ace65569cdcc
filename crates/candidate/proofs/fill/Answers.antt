use Rattle.candidate.proofs.Outcomes.{filled_after}
use Rattle.candidate.proofs.fill.Goals as goal

pub returns : goal.returns
returns c = filled_after _ _ _ _ _ _ c.in_ok-faults_of.ensures c.distances.ensures
