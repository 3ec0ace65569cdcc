use Rattle.std.proofs.Common.{refl}
use Rattle.molfile.proofs.Reading.{free_rows}
use Rattle.molfile_reader.proofs.rows.Rows.free.Goals as goal

pub returns-clause-held : goal.returns-clause-held
returns-clause-held c = free_rows _ refl
