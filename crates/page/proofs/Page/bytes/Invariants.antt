use Rattle.std.proofs.Common.{take}
use Rattle.page.specs.Page.{Puts}
use Rattle.page.proofs.Page.bytes.Given as goal

abbrev pub invariant-loop-letter : goal.invariant-loop-letter
invariant-loop-letter l = Puts (take l.letter-index l.letters) l.initial.self l.self
