use Rattle.std.proofs.Common.{◌-◌, ◌≤◌}
use Rattle.search.specs.Near.{NoneAt}
use Rattle.search.proofs.net.Net.next_at.Given as goal

abbrev pub invariant-loop-y : goal.invariant-loop-y
invariant-loop-y l = record { after : l.from ≤ l.y; within : l.y ≤ l.self.n; passed : NoneAt l.self.n l.self.dist.now l.a l.w l.from l.y }

abbrev pub decreases-loop-y : goal.decreases-loop-y
decreases-loop-y l = l.self.n - l.y
