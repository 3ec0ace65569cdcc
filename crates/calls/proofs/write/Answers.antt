use Rattle.demands.proofs.Meets.{write_met}
use Rattle.calls.proofs.write.Goals as goal

pub returns : goal.returns
returns c = search write_met
