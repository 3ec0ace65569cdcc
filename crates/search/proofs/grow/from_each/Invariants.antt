use Rattle.std.proofs.Common.{◌≡◌}
use Rattle.paths.specs.Search.{gather_below, rings_from}
use Rattle.paths.specs.Turn.{may_follow}
use Rattle.search.specs.State.{HasNoted}
use Rattle.search.proofs.grow.from_each.Given as goal

abbrev pub invariant-loop-first : goal.invariant-loop-first
invariant-loop-first l = record {
  noted : HasNoted (gather_below l.first (rings_from may_follow l.net.n l.net.table.now l.net.dist.now l.k)) l.initial.notes l.notes;
  same_list : l.notes.list.ghost_name ≡ l.initial.notes.list.ghost_name;
}
