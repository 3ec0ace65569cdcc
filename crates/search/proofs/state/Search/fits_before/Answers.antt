use Rattle.std.proofs.Common.{refl, sym, ◌∙◌}
use Rattle.paths.specs.Search.{fits_before, all_below}
use Rattle.paths.proofs.Below.{all_more, all_fails, all_done}
use Rattle.search.proofs.state.Search.fits_before.Goals as goal

pub loop-i-init : goal.loop-i-init
unfolding all_below
loop-i-init c = refl

pub returns-then-not-pair_fits : goal.returns-then-not-pair_fits
unfolding fits_before
returns-then-not-pair_fits c = sym (all_fails _ _ _ c.loop-i-test.true (sym c.pair_fits.ensures ∙ c.if-not-pair_fits.true))

pub loop-i-preserved : goal.loop-i-preserved
loop-i-preserved c = all_more _ _ c.loop-i.invariant (sym c.pair_fits.ensures ∙ c.if-not-pair_fits.false)

pub returns : goal.returns
unfolding fits_before
returns c = all_done _ _ _ c.loop-i.auto.i-end c.loop-i-test.false c.loop-i.invariant
