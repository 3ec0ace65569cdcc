use Rattle.std.proofs.Common.{arith}
use Rattle.paths.specs.Search.{pair_fits}
use Rattle.search.proofs.state.Search.pair_fits.Goals as goal

pub returns : goal.returns
unfolding pair_fits
returns c = rw (c.far.ensures, c.at.ensures, c.around.ensures.0 (omega arith))
