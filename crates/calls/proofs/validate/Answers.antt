use Rattle.demands.proofs.Meets.{validate_met}
use Rattle.calls.proofs.validate.Goals as goal

pub returns : goal.returns
returns c = search validate_met
