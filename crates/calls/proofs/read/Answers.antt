use Rattle.demands.proofs.Meets.{read_met}
use Rattle.calls.proofs.read.Goals as goal

pub returns : goal.returns
returns c = search read_met
