use Rattle.averages.proofs.MeanValues.{averages_told}
use Rattle.search.proofs.answers.histogram.Goals as goal

pub returns : goal.returns
returns c = rw (averages_told _ _ c.averages_of-averages.ensures)
