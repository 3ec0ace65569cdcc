use Rattle.demands.proofs.Printing.{respond_molfile_met}
use Rattle.calls.proofs.program.respond_molfile.Goals as goal

pub returns : goal.returns
returns c = search respond_molfile_met
