use Rattle.std.proofs.lemmas.Bool.{lt-ltb, le-ltb}
use Rattle.paths.specs.Search.{is_ring}
use Rattle.search.proofs.state.Search.is_ring.Goals as goal

pub returns-then-at : goal.returns-then-at
unfolding is_ring
returns-then-at c = rw (← c.at.ensures, ← c.at-2.ensures, lt-ltb _ _ c.if-at.true, c.every_pair.ensures)

pub returns-else-at : goal.returns-else-at
unfolding is_ring
returns-else-at c = rw (← c.at.ensures, ← c.at-2.ensures, le-ltb _ _ c.if-at.false)
