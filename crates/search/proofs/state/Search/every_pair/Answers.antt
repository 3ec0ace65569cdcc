use Rattle.std.proofs.Common.{◌≡◌, refl, true, false, get_or, rules, arith}
use Rattle.std.proofs.lemmas.Iterator.{cases_from_all, YieldsList-from_range}
use Rattle.paths.specs.Search.{fits_before, every_pair}
use Rattle.search.proofs.Tests.{told_all}
use Rattle.search.proofs.state.Search.every_pair.Goals as goal

pub returns : goal.returns
unfolding every_pair
returns c =
    let s = c.args.self.now in
    told_all (λ j. fits_before s.net.n s.net.dist.now s.k s.path.now j j (get_or s.path.now j 0)) s.k _
    (cases_from_all _ _ _ (λ j. fits_before s.net.n s.net.dist.now s.k s.path.now j j (get_or s.path.now j 0) ≡ true) (λ j. fits_before s.net.n s.net.dist.now s.k s.path.now j j (get_or s.path.now j 0) ≡ false) c.all.ensures.ran (YieldsList-from_range 0 s.k s.k refl (omega arith)) (λ x q k. search rules) (λ x q k. search rules))
