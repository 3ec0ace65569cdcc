use Rattle.std.proofs.Common.{rules}
use Rattle.molfile.proofs.Rows.{settles_next, settles_done}
use Rattle.molfile_reader.proofs.rows.Rows.insert.Goals as goal

pub loop-place-preserved : goal.loop-place-preserved
loop-place-preserved c = search (settles_next, rules)

pub returns-clause-words : goal.returns-clause-words
returns-clause-words c = search (settles_done, rules)
