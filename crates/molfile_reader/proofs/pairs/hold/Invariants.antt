use Rattle.std.proofs.Common.{◌≡◌}
use Rattle.molfile.proofs.Reading.{SoFar}
use Rattle.molfile_reader.proofs.pairs.hold.Given as goal

abbrev pub invariant-loop-k : goal.invariant-loop-k
invariant-loop-k l = (l.rows.atoms ≡ l.initial.rows.atoms) × SoFar l.initial.rows.atoms l.fn.rest l.bonds l.k-counter l.rest l.rows.words
