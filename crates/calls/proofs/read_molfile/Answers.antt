use Rattle.demands.proofs.Meets.{read_molfile_met}
use Rattle.calls.proofs.read_molfile.Goals as goal

pub returns : goal.returns
returns c = search read_molfile_met
