use Rattle.search.proofs.Ahead.{Looking, ahead}
use Rattle.search.proofs.state.Search.look_ahead.Given as goal

abbrev pub invariant-loop-next : goal.invariant-loop-next
invariant-loop-next l = Looking l.self.net.n l.self.net.dist.now l.self.k l.self.path.now l.a l.w l.from l.next

abbrev pub decreases-loop-next : goal.decreases-loop-next
decreases-loop-next l = ahead l.self.net.n l.next
