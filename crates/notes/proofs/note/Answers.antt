use Rattle.std.proofs.Common.{◌∙◌}
use Rattle.notes.proofs.Notes.{too_long, unfit, fit}
use Rattle.notes.proofs.note.Goals.{then-ring-gt-LENGTH-via-then-ring-gt-LENGTH, then-ring-gt-LENGTH-via-else-ring-gt-LENGTH+then-most-found}
use Rattle.notes.proofs.note.Goals as goal

pub returns-then-ring-gt-LENGTH : goal.returns-then-ring-gt-LENGTH
returns-then-ring-gt-LENGTH c = elim c.then-ring-gt-LENGTH.branch [
  | then-ring-gt-LENGTH-via-then-ring-gt-LENGTH w ↦ too_long _ _ _ _ w.if-ring-gt-LENGTH.true
  | then-ring-gt-LENGTH-via-else-ring-gt-LENGTH+then-most-found w ↦ unfit _ _ _ _ w.if-ring-gt-LENGTH.false w.if-most-found.true
]

pub returns : goal.returns
returns c = c.add.ensures ∙ fit _ _ _ _ c.if-ring-gt-LENGTH.false c.if-most-found.false
