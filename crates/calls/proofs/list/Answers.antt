use Rattle.demands.proofs.Meets.{list_met}
use Rattle.calls.proofs.list.Goals as goal

pub returns : goal.returns
returns c = search list_met
