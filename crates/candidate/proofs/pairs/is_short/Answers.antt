use Rattle.std.proofs.Common.{rules}
use Rattle.candidate.proofs.ShorterPairs.{entry_inside}
use Rattle.candidate.proofs.pairs.is_short.Goals as goal

pub bounds-dist-from : goal.bounds-dist-from
bounds-dist-from c = search (entry_inside, rules)
