use Rattle.demands.proofs.Printing.{respond_met}
use Rattle.calls.proofs.program.respond.Goals as goal

pub returns : goal.returns
returns c = search respond_met
