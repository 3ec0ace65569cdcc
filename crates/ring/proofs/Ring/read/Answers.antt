use Rattle.std.proofs.Common.{rules, arith, inl, inr}
use Rattle.ring.proofs.Readers.{reads_some, reads_none}
use Rattle.ring.proofs.Ring.read.Goals as goal

pub returns-then-start-words : goal.returns-then-start-words
returns-then-start-words c = search (reads_some, rules)

pub returns-else-contains : goal.returns-else-contains
returns-else-contains c = reads_none _ _ _ (λ h. elim c.else-contains.either [ inl w ↦ omega (arith, h.2) | inr w ↦ search rules ])
