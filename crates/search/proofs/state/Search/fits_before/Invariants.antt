use Rattle.std.proofs.Common.{◌≡◌, true}
use Rattle.paths.specs.Search.{pair_fits, all_below}
use Rattle.search.proofs.state.Search.fits_before.Given as goal

abbrev pub invariant-loop-i : goal.invariant-loop-i
invariant-loop-i l = all_below l.i (pair_fits l.self.net.n l.self.net.dist.now l.self.k l.self.path.now l.at l.y) ≡ true
