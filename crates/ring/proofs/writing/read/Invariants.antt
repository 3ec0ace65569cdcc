use Rattle.ring.specs.Writes.{read_from}
use Rattle.ring.proofs.Readers.{Copied}
use Rattle.ring.proofs.writing.read.Given as goal

abbrev pub invariant-loop-i : goal.invariant-loop-i
invariant-loop-i l = Copied (read_from l.ring l.start l.onwards) l.atoms l.i
