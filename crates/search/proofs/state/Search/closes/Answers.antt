use Rattle.std.proofs.lemmas.Bool.{eq-eqb, ne_eqb}
use Rattle.paths.specs.Turn.{last_above}
use Rattle.search.proofs.state.Search.closes.Goals as goal

pub returns-then-len-self : goal.returns-then-len-self
unfolding last_above
returns-then-len-self c = rw (← c.len.ensures, ne_eqb _ _ c.if-len-self.true)

pub returns-else-len-self : goal.returns-else-len-self
unfolding last_above
returns-else-len-self c = rw (← c.len.ensures, ← c.at.ensures, eq-eqb _ _ c.if-len-self.false)
