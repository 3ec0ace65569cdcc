use Rattle.std.proofs.Common.{sym}
use Rattle.distance.proofs.Fills.{offer_taken, offer_set, filled_none, filled_one}
use Rattle.distance.proofs.rows.offer_to.Goals as goal

pub returns-then-row-atom : goal.returns-then-row-atom
returns-then-row-atom c = (sym (offer_taken _ _ _ c.if-row-atom.true), filled_none _)

pub returns : goal.returns
returns c = (sym (offer_set _ _ _ c.if-row-atom.false), filled_one _ _ _ c.requires.1 c.if-row-atom.false c.requires.0)
