use Rattle.std.proofs.Common.{rules}
use Rattle.network.proofs.Verdicts.{is_some, is_none}
use Rattle.network.proofs.Network.of.Goals as goal

pub returns-then-contains : goal.returns-then-contains
returns-then-contains c = search (is_some, rules)

pub returns-else-contains : goal.returns-else-contains
returns-else-contains c = search (is_none, rules)
