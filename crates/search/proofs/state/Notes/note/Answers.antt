use Rattle.std.proofs.Common.{refl, length}
use Rattle.census.specs.Census.{plain}
use Rattle.notes.proofs.Notes.{right_note, one_ring}
use Rattle.search.proofs.state.Notes.note.Goals as goal

pub invariant_of-self : goal.invariant_of-self
invariant_of-self c = record { fits = (right_note _ _ _ _ _ _ c.note-self.ensures c.requires c.args.self.now.fits).1 }

pub returns-clause-noted : goal.returns-clause-noted
returns-clause-noted c = record { result = one_ring length plain _ _ _ _ (right_note _ _ _ _ _ _ c.note-self.ensures c.requires c.args.self.now.fits).0; allowance = refl }
