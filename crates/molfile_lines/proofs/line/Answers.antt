use Rattle.std.proofs.Common.{refl}
use Rattle.molfile.proofs.Lines.{line_found, line_not_found}
use Rattle.molfile_lines.proofs.line.Goals as goal

pub returns-in-Some : goal.returns-in-Some
returns-in-Some c = rw c.unwrap_or.ensures (line_found _ _ c.in-Some.ensures _ _ refl c.strip_suffix.ensures.cases)

pub returns-in-None : goal.returns-in-None
returns-in-None c = line_not_found _ c.in-None.ensures
