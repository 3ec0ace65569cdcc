use Rattle.census.proofs.Passed.{limit_default_lem, limit_given}
use Rattle.census.proofs.checks.limit_used.Goals as goal

pub returns-then-limit-eq0 : goal.returns-then-limit-eq0
returns-then-limit-eq0 c = search limit_default_lem

pub returns-else-limit-eq0 : goal.returns-else-limit-eq0
returns-else-limit-eq0 c = search limit_given
