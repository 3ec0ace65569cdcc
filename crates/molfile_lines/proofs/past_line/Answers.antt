use Rattle.molfile.proofs.Lines.{past_found, past_not_found}
use Rattle.molfile_lines.proofs.past_line.Goals as goal

pub returns-in-Some : goal.returns-in-Some
returns-in-Some c = past_found _ _ c.in-Some.ensures

pub returns-in-None : goal.returns-in-None
returns-in-None c = past_not_found _ c.in-None.ensures
