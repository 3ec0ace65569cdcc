use Rattle.std.proofs.lemmas.Bool.{eq-eqb, ne_eqb, lt-ltb}
use Rattle.paths.specs.Turn.{antipodes}
use Rattle.search.proofs.state.Search.across.Goals as goal

pub returns-then-half-self : goal.returns-then-half-self
unfolding antipodes
returns-then-half-self c = rw (lt-ltb _ _ c.requires.inside.1, ← c.len-len.ensures, ← c.pair_fits.ensures, c.if-pair_fits.true, eq-eqb _ _ c.if-half-self.true)

pub returns-else-half-self : goal.returns-else-half-self
unfolding antipodes
returns-else-half-self c = rw (lt-ltb _ _ c.requires.inside.1, ← c.len-len.ensures, ← c.pair_fits.ensures, c.if-pair_fits.true, ne_eqb _ _ c.if-half-self.false, c.pair_fits-else-half-self.ensures)

pub returns-else-pair_fits : goal.returns-else-pair_fits
unfolding antipodes
returns-else-pair_fits c = rw (lt-ltb _ _ c.requires.inside.1, ← c.len-len.ensures, ← c.pair_fits.ensures, c.if-pair_fits.false)
