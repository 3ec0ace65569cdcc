use Rattle.std.proofs.Common.{◌≡◌, ◌-◌, length}
use Rattle.paths.specs.Search.{gather_below}
use Rattle.search.specs.State.{HasNoted}
use Rattle.search.proofs.Rows.{rings_by}
use Rattle.search.proofs.grow.+grow.Given as goal

abbrev pub decreases-grow : goal.decreases-grow
decreases-grow l = l.k - length l.path.now

abbrev pub invariant-loop-place : goal.invariant-loop-place
invariant-loop-place l = record {
  kept : l.path ≡ l.initial.path;
  noted : HasNoted (gather_below l.place (rings_by l.net l.k l.initial.path)) l.initial.notes l.notes;
  same_list : l.notes.list.ghost_name ≡ l.initial.notes.list.ghost_name;
}
